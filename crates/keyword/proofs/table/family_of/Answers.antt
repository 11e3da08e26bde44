-- `keyword::table::family_of` meets its contract: at each letter a test of the family, computed over all words, finds none that it lacks.
use mathlib.Core.Path.{refl}
use lib.ListN.{length}
use Rattle.prelude.specs.Choice.{some}
use Rattle.keyword.specs.Keywords.{keyword_texts, keywords}
use Rattle.keyword.specs.Reserved.{reserved_words}
use Rattle.keyword.specs.TableWords.{has_bit, mark_of}
use Rattle.keyword.proofs.TableLaws.{no_family}
use Rattle.keyword.proofs.table.family_of.Goals as goal

pub returns-in-1 : goal.returns-in-1
unfolding some reserved_words keywords keyword_texts has_bit mark_of
returns-in-1 c = (rw c.in-1.is refl, rw c.in-1.is refl)

pub returns-in-2 : goal.returns-in-2
unfolding some reserved_words keywords keyword_texts has_bit mark_of
returns-in-2 c = (rw c.in-2.is refl, rw c.in-2.is refl)

pub returns-in-3 : goal.returns-in-3
unfolding some reserved_words keywords keyword_texts has_bit mark_of
returns-in-3 c = (rw c.in-3.is refl, rw c.in-3.is refl)

pub returns-in-4 : goal.returns-in-4
unfolding some reserved_words keywords keyword_texts has_bit mark_of
returns-in-4 c = (rw c.in-4.is refl, rw c.in-4.is refl)

pub returns-in-5 : goal.returns-in-5
unfolding some reserved_words keywords keyword_texts has_bit mark_of
returns-in-5 c = (rw c.in-5.is refl, rw c.in-5.is refl)

pub returns-in-6 : goal.returns-in-6
unfolding some reserved_words keywords keyword_texts has_bit mark_of
returns-in-6 c = (rw c.in-6.is refl, rw c.in-6.is refl)

pub returns-in-7 : goal.returns-in-7
unfolding some reserved_words keywords keyword_texts has_bit mark_of
returns-in-7 c = (rw c.in-7.is refl, rw c.in-7.is refl)

pub returns-in-8 : goal.returns-in-8
unfolding some reserved_words keywords keyword_texts has_bit mark_of
returns-in-8 c = (rw c.in-8.is refl, rw c.in-8.is refl)

pub returns-in-9 : goal.returns-in-9
unfolding some reserved_words keywords keyword_texts has_bit mark_of
returns-in-9 c = (rw c.in-9.is refl, rw c.in-9.is refl)

pub returns-in-10 : goal.returns-in-10
unfolding some reserved_words keywords keyword_texts has_bit mark_of
returns-in-10 c = (rw c.in-10.is refl, rw c.in-10.is refl)

pub returns-in-11 : goal.returns-in-11
unfolding some reserved_words keywords keyword_texts has_bit mark_of
returns-in-11 c = (rw c.in-11.is refl, rw c.in-11.is refl)

pub returns-in-12 : goal.returns-in-12
unfolding some reserved_words keywords keyword_texts has_bit mark_of
returns-in-12 c = (rw c.in-12.is refl, rw c.in-12.is refl)

pub returns-in-13 : goal.returns-in-13
unfolding some reserved_words keywords keyword_texts has_bit mark_of
returns-in-13 c = (rw c.in-13.is refl, rw c.in-13.is refl)

pub returns-in-14 : goal.returns-in-14
unfolding some reserved_words keywords keyword_texts has_bit mark_of
returns-in-14 c = (rw c.in-14.is refl, rw c.in-14.is refl)

pub returns-in-15 : goal.returns-in-15
unfolding some reserved_words keywords keyword_texts has_bit mark_of
returns-in-15 c = (rw c.in-15.is refl, rw c.in-15.is refl)

pub returns-in-16 : goal.returns-in-16
unfolding some reserved_words keywords keyword_texts has_bit mark_of
returns-in-16 c = (rw c.in-16.is refl, rw c.in-16.is refl)

pub returns-in-17 : goal.returns-in-17
unfolding some reserved_words keywords keyword_texts has_bit mark_of
returns-in-17 c = (rw c.in-17.is refl, rw c.in-17.is refl)

pub returns-in-18 : goal.returns-in-18
unfolding some reserved_words keywords keyword_texts has_bit mark_of
returns-in-18 c = (rw c.in-18.is refl, rw c.in-18.is refl)

pub returns-in-19 : goal.returns-in-19
unfolding some reserved_words keywords keyword_texts has_bit mark_of
returns-in-19 c = (rw c.in-19.is refl, rw c.in-19.is refl)

pub returns-in-20 : goal.returns-in-20
unfolding some reserved_words keywords keyword_texts has_bit mark_of
returns-in-20 c = (rw c.in-20.is refl, rw c.in-20.is refl)

pub returns-in-21 : goal.returns-in-21
unfolding some reserved_words keywords keyword_texts has_bit mark_of
returns-in-21 c = (rw c.in-21.is refl, rw c.in-21.is refl)

pub returns-in-22 : goal.returns-in-22
unfolding some reserved_words keywords keyword_texts has_bit mark_of
returns-in-22 c = (rw c.in-22.is refl, rw c.in-22.is refl)

pub returns-in-23 : goal.returns-in-23
unfolding some reserved_words keywords keyword_texts has_bit mark_of
returns-in-23 c = (rw c.in-23.is refl, rw c.in-23.is refl)

pub returns-in_default : goal.returns-in_default
unfolding some reserved_words keywords keyword_texts has_bit mark_of
returns-in_default c = (no_family length _ 0 refl c.in_default.in_default-own.rest, no_family mark_of _ 0 refl c.in_default.in_default-own.rest)
