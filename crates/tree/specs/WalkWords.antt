-- What the code's walk answers about a reading: the refusal, or what has to be known of a tree to decide refusal 7 above it. Document 01, "What a caller hears".
use Rattle.std.specs.Prelude.{ℕ, ◌-◌, List, Bool, true, false, length, take, drop, ltb, eqb, Option, None, Some, Result, Ok, Err}
use Rattle.prelude.specs.Choice.{pick, both}
use Rattle.refusal.specs.declared.Refusal.{Refusal}
use Rattle.refusal.specs.declared.Refusal.TheVariants.{BadFrame, BadKindOrOperator, BadField}
use Rattle.record.specs.declared.Frame.{Frame}
use Rattle.record.specs.Record.{le16, frame}
use Rattle.op.specs.declared.Op.{Op}
use Rattle.op.specs.Op.{op_of, is_temporal, is_instant_or_interval}
use Rattle.tree.specs.declared.Shape.{Shape}
use Rattle.tree.specs.declared.Shape.TheVariants.{Interval, Pair, Other, Misplaced}
use Rattle.tree.specs.declared.Items.{Items}
use Rattle.tree.specs.Tree.{Tree, Trees}
use Rattle.tree.specs.Parse.{Read, refused, got, Body}
use Rattle.tree.specs.Tests.{first, second, is_interval, is_pair, count}
use Rattle.tree.specs.Placed.{is_between, inner, inners}

-- what the record above has to know of a tree
unfoldable pub shape_of : Tree → Shape
shape_of t = pick (inner t) (pick (is_interval t) Interval (pick (is_pair t) Pair Other)) Misplaced

-- the answers of the walk: one record, two, records to the end, the record at the front of s
abbrev pub two : Shape → Shape → Result (Shape × Shape) Refusal
two a b = Ok (a, b)

abbrev pub every : Bool → ℕ → Result Items Refusal
every p c = Ok (record { plain = p; count = c })

abbrev pub next : ℕ → Shape → Result (ℕ × Shape) Refusal
next e a = Ok (e, a)

unfoldable pub seen : Read Tree → Result Shape Refusal
seen (refused n) = Err n
seen (got t) = Ok (shape_of t)

unfoldable pub seen_one : Read Trees → Result Shape Refusal
seen_one (refused n) = Err n
seen_one (got ts) = Ok (shape_of (first ts))

unfoldable pub seen_two : Read Trees → Result (Shape × Shape) Refusal
seen_two (refused n) = Err n
seen_two (got ts) = two (shape_of (first ts)) (shape_of (second ts))

unfoldable pub seen_all : Read Trees → Result Items Refusal
seen_all (refused n) = Err n
seen_all (got ts) = every (inners ts) (count ts)

unfoldable pub ended : ℕ → Read Tree → Result (ℕ × Shape) Refusal
ended e (refused n) = Err n
ended e (got t) = next e (shape_of t)

unfoldable pub framed : Body → List ℕ → Option Frame → Result (ℕ × Shape) Refusal
framed body s None = Err BadFrame
framed body s (Some f) = ended f.end (body f.kind (take (f.end - 6) (drop 6 s)))

abbrev pub first_of : Body → List ℕ → Result (ℕ × Shape) Refusal
first_of body s = framed body s (frame s)

-- the operator at the front of a body
unfoldable pub taken_by : (Op → Bool) → Option Op → Result Op Refusal
taken_by test None = Err BadKindOrOperator
taken_by test (Some o) = pick (test o) (Ok o) (Err BadKindOrOperator)

unfoldable pub taken : (Op → Bool) → List ℕ → Result Op Refusal
taken test s = pick (ltb (length s) 2) (Err BadField) (taken_by test (op_of (le16 s 0)))

-- Shapes.

abbrev pub plain_shape : Shape → Bool
plain_shape Interval = false
plain_shape Pair = true
plain_shape Other = true
plain_shape Misplaced = false

abbrev pub pair_shape : Shape → Bool
pair_shape Interval = false
pair_shape Pair = true
pair_shape Other = false
pair_shape Misplaced = false

abbrev pub interval_shape : Shape → Bool
interval_shape Interval = true
interval_shape Pair = false
interval_shape Other = false
interval_shape Misplaced = false

abbrev pub sound_shape : Shape → Bool
sound_shape Interval = true
sound_shape Pair = true
sound_shape Other = true
sound_shape Misplaced = false

-- what an operator wants of its two sides
unfoldable pub fits : Op → Shape → Shape → Bool
fits o a b =
    pick (is_temporal o)
    (pick (is_instant_or_interval o) (both (sound_shape a) (sound_shape b)) (both (interval_shape a) (interval_shape b)))
    (both (plain_shape a) (pick (is_between o) (pair_shape b) (plain_shape b)))

abbrev pub or_misplaced : Bool → Shape → Shape
or_misplaced b h = pick b h Misplaced

abbrev pub leaf_one : Bool → Result Shape Refusal
leaf_one b = pick b (Ok Other) (Err BadField)

-- what the answers below a record make of the record: one for each kind

abbrev pub monadic_one : Result Shape Refusal → Result Shape Refusal
monadic_one (Err n) = Err n
monadic_one (Ok a) = Ok (or_misplaced (plain_shape a) Other)

abbrev pub dyadic_one : Op → Result (Shape × Shape) Refusal → Result Shape Refusal
dyadic_one o (Err n) = Err n
dyadic_one o (Ok t) = Ok (or_misplaced (fits o t.0 t.1) Other)

abbrev pub function_one : Result Items Refusal → Result Shape Refusal
function_one (Err n) = Err n
function_one (Ok i) = Ok (or_misplaced i.plain Other)

abbrev pub array_one : Result Items Refusal → Result Shape Refusal
array_one (Err n) = Err n
array_one (Ok i) = Ok (or_misplaced i.plain (pick (eqb i.count 2) Pair Other))

abbrev pub interval_one : Result (Shape × Shape) Refusal → Result Shape Refusal
interval_one (Err n) = Err n
interval_one (Ok t) = Ok (or_misplaced (both (plain_shape t.0) (plain_shape t.1)) Interval)
