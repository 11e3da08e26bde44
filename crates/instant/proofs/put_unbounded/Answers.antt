-- `instant::put_unbounded` meets its contract: in the Rust's writing each slot has the text that is put, in GeoPackage's the second end has its own.
use mathlib.Core.Bool.{Bool, true, false}
use mathlib.Core.Path.{◌≡◌, refl, ap, sym}
use Rattle.prelude.specs.Choice.{pick}
use Rattle.prelude.specs.Bytes.{bytes}
use Rattle.literal.specs.declared.Writing.TheVariants.{Rust, GeoPackage}
use Rattle.literal.specs.Literal.{quoted, open_end, stop_slot, unbounded_text}
use Rattle.literal.specs.LiteralLaws.{rust_alike}
use Rattle.instant.proofs.put_unbounded.Goals as goal

rust-text : (b : Bool) → bytes "'-2021-01-01'" ≡ unbounded_text Rust (stop_slot b)
unfolding quoted open_end
rust-text b = ap quoted (sym (rust_alike (stop_slot b)))

geopackage-text : (b : Bool) → pick b (bytes "'A'") (bytes "'-2021-01-01'") ≡ unbounded_text GeoPackage (stop_slot b)
unfolding quoted open_end
geopackage-text true = refl
geopackage-text false = refl

pub returns-in-Rust : goal.returns-in-Rust
returns-in-Rust c = rw (c.in-Rust.is, ← rust-text _) c.put.ensures

pub returns-in-GeoPackage : goal.returns-in-GeoPackage
returns-in-GeoPackage c = rw (c.in-GeoPackage.is, ← geopackage-text _) c.put_either.ensures
