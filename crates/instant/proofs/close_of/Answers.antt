-- Each writing has its own text.
use Rattle.std.proofs.Common.{refl}
use Rattle.literal.specs.Literal.{after_seconds}
use Rattle.instant.proofs.close_of.Goals as goal

pub returns-in-Rust : goal.returns-in-Rust
unfolding after_seconds
returns-in-Rust c = rw c.in-Rust.is refl

pub returns-in-GeoPackage : goal.returns-in-GeoPackage
unfolding after_seconds
returns-in-GeoPackage c = rw c.in-GeoPackage.is refl
