-- A tree is read exactly if it has no more levels than are allowed, else refused with 4. What is read is good within these levels (GoodWords.antt), and a
-- good tree is good within any number of levels that it does not exceed.
use Rattle.std.specs.Prelude.{ℕ, ◌-◌, ◌≤◌, ◌<◌, ◌≡◌, List, length}
use Rattle.std.proofs.Common.{ap, ◌∙◌, arith}
use Rattle.refusal.specs.declared.Refusal.TheVariants.{TooDeep}
use Rattle.tree.specs.Tree.{Tree, Trees, null, unbounded, bool, num, str, date, timestamp, spatial, id, monadic, dyadic, function, array, interval, none, ◌then◌, Bytes}
use Rattle.tree.specs.Parse.{refused, got, parse}
use Rattle.tree.specs.ParseLaws.{parse_sound, parse_good}
use Rattle.tree.specs.EncodeLaws.{size_limit, encode_parse}
use Rattle.tree.specs.GoodWords.{Good, AllGood}
use Rattle.tree.specs.Levels.{levels, levels_in}
use Rattle.tree.specs.LimitLaws.{Else, alike, stops, deeper, deeper-is, parse_other}

mutual
  unfolding Good AllGood levels levels_in

  good_levels : (t : Tree) (n : ℕ) → Good t n → levels t ≤ n
  good_levels null n g = omega (arith, g)
  good_levels unbounded n g = omega (arith, g)
  good_levels (bool b) n g = omega (arith, g)
  good_levels (num m s) n g = omega (arith, g.0)
  good_levels (str f s) n g = omega (arith, g.0)
  good_levels (date y m d) n g = omega (arith, g.0)
  good_levels (timestamp y m d h i s) n g = omega (arith, g.0)
  good_levels (spatial r s) n g = omega (arith, g.0)
  good_levels (id s) n g = omega (arith, g.0)
  good_levels (monadic o t) n g = omega (arith, g.0, good_levels t (n - 1) g.2)
  good_levels (dyadic o t u) n g = omega (arith, g.0, good_levels t (n - 1) g.2, good_levels u (n - 1) g.3)
  good_levels (function s ts) n g = omega (arith, g.0, all_levels ts (n - 1) g.2)
  good_levels (array ts) n g = omega (arith, g.0, all_levels ts (n - 1) g.1)
  good_levels (interval t u) n g = omega (arith, g.0, good_levels t (n - 1) g.1, good_levels u (n - 1) g.2)

  all_levels : (ts : Trees) (n : ℕ) → AllGood ts n → levels_in ts ≤ n
  all_levels none n g = omega arith
  all_levels (t then ts) n g = omega (arith, good_levels t n g.0, all_levels ts n g.1)

mutual
  unfolding Good AllGood levels levels_in

  good_again : (t : Tree) (n m : ℕ) → Good t n → levels t ≤ m → Good t m
  good_again null n m g l = omega (arith, l)
  good_again unbounded n m g l = omega (arith, l)
  good_again (bool b) n m g l = omega (arith, l)
  good_again (num k s) n m g l = (omega (arith, l), g.1, g.2)
  good_again (str f s) n m g l = (omega (arith, l), g.1, g.2, g.3)
  good_again (date y k d) n m g l = (omega (arith, l), g.1)
  good_again (timestamp y k d h i s) n m g l = (omega (arith, l), g.1, g.2)
  good_again (spatial r s) n m g l = (omega (arith, l), g.1, g.2, g.3, g.4)
  good_again (id s) n m g l = (omega (arith, l), g.1)
  good_again (monadic o t) n m g l = (omega (arith, l), g.1, good_again t (n - 1) (m - 1) g.2 (omega (arith, l)))
  good_again (dyadic o t u) n m g l =
      (omega (arith, l), g.1, good_again t (n - 1) (m - 1) g.2 (omega (arith, l)), good_again u (n - 1) (m - 1) g.3 (omega (arith, l)))
  good_again (function s ts) n m g l = (omega (arith, l), g.1, all_again ts (n - 1) (m - 1) g.2 (omega (arith, l)))
  good_again (array ts) n m g l = (omega (arith, l), all_again ts (n - 1) (m - 1) g.1 (omega (arith, l)))
  good_again (interval t u) n m g l =
      (omega (arith, l), good_again t (n - 1) (m - 1) g.1 (omega (arith, l)), good_again u (n - 1) (m - 1) g.2 (omega (arith, l)))

  all_again : (ts : Trees) (n m : ℕ) → AllGood ts n → levels_in ts ≤ m → AllGood ts m
  all_again none n m g l = g
  all_again (t then ts) n m g l = (good_again t n m g.0 (omega (arith, l)), all_again ts n m g.1 (omega (arith, l)))

module _ (n m : ℕ) (s : List ℕ) (t : Tree) (bytes : Bytes s) (short : length s < size_limit) (read : parse m s ≡ got t) where
  -- a tree that some number of levels allows is allowed by any that it does not exceed
  pub shallow_read : levels t ≤ n → parse n s ≡ got t
  shallow_read l =
      let p = parse_sound m s t bytes read in
      ap (parse n) p.0 ∙ encode_parse n t (good_again t m n p.1 l) (omega (arith, short, ap length p.0))

  -- and is a 4 for any other
  pub deep_refused : n < levels t → parse n s ≡ refused TooDeep
  deep_refused l = go (parse_other n m s t read)
    where
      go : Else deeper (parse n s) (got t) → parse n s ≡ refused TooDeep
      go (alike e) = absurd (let g = good_levels t n (parse_good n s t bytes e) in let w : ⊥ = omega (arith, l, g) in w)
      go (stops k i e) = e ∙ ap refused (deeper-is k i)
