-- The steps by which the arguments are looked at name the call that the definition names.
use Rattle.std.proofs.Common.{ℕ, ◌≡◌, refl, Bool, List, [], ◌∷◌, ◌+◌, Option, Some, None, IfSome, inl, inr}
use Rattle.std.proofs.lemmas.Bool.{cases_Bool}
use Rattle.prelude.specs.Choice.{pick, same}
use Rattle.prelude.specs.Bytes.{bytes}
use Rattle.literal.specs.declared.Writing.TheVariants.{Rust, GeoPackage}
use Rattle.calls.specs.declared.Call.{Call}
use Rattle.calls.specs.declared.Caller.TheVariants.{Planner, Controller}
use Rattle.calls.specs.Words.{is_there, is_arg, call_named, named, writing_named}

-- the call by these steps
abbrev by_steps : List (List ℕ) → Option Call
by_steps args =
    let a = is_arg args 1 (bytes "controller") in
    let p = pick a 2 1 in
    let b = is_arg args p (bytes "geopackage") in
    pick (is_there args (pick b (p + 1) p)) None (Some (record { caller = pick a Controller Planner; writing = pick b GeoPackage Rust }))

pub steps_name : (args : List (List ℕ)) → by_steps args ≡ call_named args
unfolding call_named named writing_named
steps_name [] = refl
steps_name (n ∷ []) = refl
steps_name (n ∷ w ∷ []) =
    elim (cases_Bool (same w (bytes "controller"))) [
      | inl e ↦ simp e refl
      | inr e ↦ elim (cases_Bool (same w (bytes "geopackage"))) [
        | inl f ↦ simp (e, f) refl
        | inr f ↦ simp (e, f) refl
      ]
    ]
steps_name (n ∷ w ∷ v ∷ []) =
    elim (cases_Bool (same w (bytes "controller"))) [
      | inl e ↦ elim (cases_Bool (same v (bytes "geopackage"))) [
        | inl f ↦ simp (e, f) refl
        | inr f ↦ simp (e, f) refl
      ]
      | inr e ↦ elim (cases_Bool (same w (bytes "geopackage"))) [
        | inl f ↦ simp (e, f) refl
        | inr f ↦ simp (e, f) refl
      ]
    ]
steps_name (n ∷ w ∷ v ∷ u ∷ more) =
    elim (cases_Bool (same w (bytes "controller"))) [
      | inl e ↦ elim (cases_Bool (same v (bytes "geopackage"))) [
        | inl f ↦ simp (e, f) refl
        | inr f ↦ simp (e, f) refl
      ]
      | inr e ↦ elim (cases_Bool (same w (bytes "geopackage"))) [
        | inl f ↦ simp (e, f) refl
        | inr f ↦ simp (e, f) refl
      ]
    ]

-- where the arguments are known, by what was found of them
pub names : (o : Option (List (List ℕ))) (a b c : Bool) (p q : ℕ) (call : Call)
    → IfSome o (λ args. a ≡ is_arg args 1 (bytes "controller")) → p ≡ pick a 2 1
    → IfSome o (λ args. b ≡ is_arg args p (bytes "geopackage")) → q ≡ pick b (p + 1) p
    → IfSome o (λ args. c ≡ is_there args q) → call ≡ record { caller = pick a Controller Planner; writing = pick b GeoPackage Rust }
    → IfSome o (λ args. pick c None (Some call) ≡ call_named args)
names None a b c p q call ha hp hb hq hc e = tt
names (Some args) a b c p q call ha hp hb hq hc e = rw (hc, e, hq, hb, hp, ha) (steps_name args)
