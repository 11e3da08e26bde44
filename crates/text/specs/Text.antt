-- The SQL text of a tree, case by case as `to_sql_impl` (src/ds/gpkg.rs): document 01, "The lowering"; by the writing: document 02, slips 4 and 5.
use Rattle.std.specs.Prelude.{ℕ, List, [], ◌∷◌, ◌++◌, Bool, false, get_or, eqb}
use Rattle.prelude.specs.Choice.{pick, both, negated}
use Rattle.prelude.specs.Bytes.{bytes}
use Rattle.op.specs.declared.Op.{Op}
use Rattle.op.specs.declared.Op.TheVariants.{Minus, Neg, CaseI, AccentI, STouches, SWithin, SOverlaps, IsLike, IsNotLike}
use Rattle.op.specs.Op.{op_number, one_of, is_array, is_spatial, is_temporal, is_nullable}
use Rattle.spelling.specs.Spelling.{word}
use Rattle.tree.specs.Kinds.{UNBOUNDED}
use Rattle.tree.specs.Tree.{Tree, Trees, Settings, null, unbounded, bool, num, str, date, timestamp, spatial, id, monadic, dyadic, function, array, interval, none, ◌then◌, kind_of}
use Rattle.tree.specs.Placed.{is_between}
use Rattle.tree.specs.Tests.{is_id, is_items, is_interval, is_monadic, is_literal_or_id, start_of, stop_of, columns_of}
use Rattle.literal.specs.declared.Writing.{Writing}
use Rattle.literal.specs.Literal.{Slot, alone, start_slot, stop_slot, null_text, bool_text, unbounded_text, num_text, str_text, date_text, timestamp_text, spatial_text, decimal, collate}
use Rattle.sql.specs.Condition.{print}
use Rattle.sql.specs.Translators.{translate}

-- Texts put together.

-- x itself, or in brackets
abbrev pub bare : Bool → List ℕ → List ℕ
bare b x = pick b x (bytes "(" ++ (x ++ bytes ")"))

-- x, y, z
unfoldable pub joined : List (List ℕ) → List ℕ
joined [] = []
joined (x ∷ []) = x
joined (x ∷ (y ∷ s)) = x ++ (bytes ", " ++ joined (y ∷ s))

-- `reduce_precision_sql`: ST_ReducePrecision(x, 1E-p)
unfoldable pub reduce_precision : ℕ → List ℕ → List ℕ
reduce_precision p x =
    bytes "ST_ReducePrecision(" ++ (x ++ (bytes ", 1E-" ++ (decimal p ++ bytes ")")))

-- Operators. x and y are the texts of t and u; xs and ys those of their own children.

unfoldable pub monadic_text : Settings → Op → Tree → List ℕ → List (List ℕ) → List ℕ
monadic_text g o t x xs =
    pick (is_nullable o) (bare (is_literal_or_id t) x ++ (bytes " " ++ word o))
    (pick (one_of o (Neg ∷ Minus ∷ [])) (word o ++ (bytes " " ++ bare (is_literal_or_id t) x))
    (pick (one_of o (CaseI ∷ []))
    (pick (is_monadic AccentI t) (get_or xs 0 [] ++ collate g.cai) (x ++ collate g.ci))
    (pick (is_monadic CaseI t) (get_or xs 0 [] ++ collate g.cai) (x ++ collate g.ai))))

-- exactly one side a column, and only SWithin, SOverlaps, STouches
unfoldable pub reduces : Op → Tree → Tree → Bool
reduces o t u = both (one_of o (SWithin ∷ SOverlaps ∷ STouches ∷ [])) (both (is_id t) (negated (is_id u)))

-- the text of an end by the writing and its slot: an open end as these spell it, any other by its own text x
abbrev pub end_text : Writing → Slot → Tree → List ℕ → List ℕ
end_text w slot t x = pick (eqb (kind_of t) UNBOUNDED) (unbounded_text w slot) x

-- the ends of an operand: of an interval its children, of an instant itself and Null
abbrev pub start_text : Writing → Tree → List ℕ → List (List ℕ) → List ℕ
start_text w t x xs = end_text w (start_slot (is_interval t)) (start_of t) (pick (is_interval t) (get_or xs 0 []) x)

abbrev pub stop_text : Writing → Tree → List (List ℕ) → List ℕ
stop_text w t xs = end_text w (stop_slot (is_interval t)) (stop_of t) (pick (is_interval t) (get_or xs 1 []) null_text)

-- a bound of BETWEEN, whose right side is an Array of two
abbrev pub bound_text : Tree → List (List ℕ) → ℕ → List ℕ
bound_text u ys j = pick (is_items u) (get_or ys j null_text) null_text

unfoldable pub dyadic_text : Writing → Settings → Op → Tree → Tree → List ℕ → List ℕ → List (List ℕ) → List (List ℕ) → List ℕ
dyadic_text w g o t u x y xs ys =
    pick (is_between o)
    (x ++ (bytes " " ++ (word o ++ (bytes " " ++ (bound_text u ys 0 ++ (bytes " AND " ++ bound_text u ys 1))))))
    (pick (is_spatial o)
    (word o ++ (bytes "(" ++ (pick (reduces o t u) (reduce_precision g.precision x) x
    ++ (bytes ", " ++ (pick (reduces o u t) (reduce_precision g.precision y) y ++ bytes ")")))))
    (pick (is_temporal o)
    (print (λ j. get_or (start_text w t x xs ∷ stop_text w t xs ∷ start_text w u y ys ∷ stop_text w u ys ∷ []) j [])
    (translate (op_number o) (is_interval t) (is_interval u) (columns_of t u)))
    (pick (is_array o) (x ++ (bytes " " ++ (word o ++ (bytes " " ++ y))))
    (pick (one_of o (IsLike ∷ IsNotLike ∷ [])) (bare (is_literal_or_id t) x ++ (bytes " " ++ (word o ++ (bytes " " ++ bare false y))))
    (bare (is_literal_or_id t) x ++ (bytes " " ++ (word o ++ (bytes " " ++ bare (is_literal_or_id u) y))))))))

-- The text by a writing; an Interval has none of its own, its ends are written by the operator above it.
unfoldable mutual
  pub text : Writing → Settings → Tree → List ℕ
  text w g null = null_text
  text w g unbounded = unbounded_text w alone
  text w g (bool b) = bool_text b
  text w g (num m s) = num_text m s
  text w g (str f s) = str_text g.ci g.ai g.cai f s
  text w g (date y m d) = date_text y m d
  text w g (timestamp y m d h i s) = timestamp_text w y m d h i s
  text w g (spatial n s) = spatial_text n s
  text w g (id s) = s
  text w g (monadic o t) = monadic_text g o t (text w g t) (children w g t)
  text w g (dyadic o t u) = dyadic_text w g o t u (text w g t) (text w g u) (children w g t) (children w g u)
  text w g (function n ts) = n ++ bare false (joined (texts w g ts))
  text w g (array ts) = bare false (joined (texts w g ts))
  text w g (interval t u) = []

  -- the texts of a node's operands, items or ends
  pub children : Writing → Settings → Tree → List (List ℕ)
  children w g null = []
  children w g unbounded = []
  children w g (bool b) = []
  children w g (num m s) = []
  children w g (str f s) = []
  children w g (date y m d) = []
  children w g (timestamp y m d h i s) = []
  children w g (spatial n s) = []
  children w g (id s) = []
  children w g (monadic o t) = text w g t ∷ []
  children w g (dyadic o t u) = text w g t ∷ text w g u ∷ []
  children w g (function n ts) = texts w g ts
  children w g (array ts) = texts w g ts
  children w g (interval t u) = text w g t ∷ text w g u ∷ []

  pub texts : Writing → Settings → Trees → List (List ℕ)
  texts w g none = []
  texts w g (t then ts) = text w g t ∷ texts w g ts
