-- Laws of specs/Filter.antt: which trees pass its tests, each as the few constructors that do.
use Rattle.std.specs.Prelude.{ℕ, ◌≡◌, List, Bool, true, eqb}
use Rattle.std.proofs.lemmas.Bool.{false≢true}
use Rattle.op.specs.declared.Op.{Op}
use Rattle.tree.specs.Tree.{Tree, null, unbounded, bool, num, str, date, timestamp, spatial, id, monadic, dyadic, function, array, interval}
use Rattle.tree.specs.Tests.{by_operator}
use Rattle.time.specs.Filter.{comparable, is_end, time_filter}

-- Ends.
pub data EndIs : Tree → Type 0 where
  null_end : EndIs null
  open_end_lem : EndIs unbounded
  date-end : (y m d : ℕ) → EndIs (date y m d)
  timestamp-end : (y m d h i s : ℕ) → EndIs (timestamp y m d h i s)
  column_end : (s : List ℕ) → EndIs (id s)

pub end_is : (t : Tree) → is_end t ≡ true → EndIs t
unfolding is_end
end_is null e = null_end
end_is unbounded e = open_end_lem
end_is (bool b) e = absurd (false≢true e)
end_is (num m s) e = absurd (false≢true e)
end_is (str f s) e = absurd (false≢true e)
end_is (date y m d) e = date-end y m d
end_is (timestamp y m d h i s) e = timestamp-end y m d h i s
end_is (spatial n s) e = absurd (false≢true e)
end_is (id s) e = column_end s
end_is (monadic o t) e = absurd (false≢true e)
end_is (dyadic o t u) e = absurd (false≢true e)
end_is (function n ts) e = absurd (false≢true e)
end_is (array ts) e = absurd (false≢true e)
end_is (interval t u) e = absurd (false≢true e)

-- What is compared.
pub data ComparableIs : Tree → Type 0 where
  comparable_str : (f : ℕ) (s : List ℕ) → eqb f 0 ≡ true → ComparableIs (str f s)
  comparable-date : (y m d : ℕ) → ComparableIs (date y m d)
  comparable-timestamp : (y m d h i s : ℕ) → ComparableIs (timestamp y m d h i s)
  comparable_id : (s : List ℕ) → ComparableIs (id s)

pub comparable-is : (t : Tree) → comparable t ≡ true → ComparableIs t
unfolding comparable
comparable-is null e = absurd (false≢true e)
comparable-is unbounded e = absurd (false≢true e)
comparable-is (bool b) e = absurd (false≢true e)
comparable-is (num m s) e = absurd (false≢true e)
comparable-is (str f s) e = comparable_str f s e
comparable-is (date y m d) e = comparable-date y m d
comparable-is (timestamp y m d h i s) e = comparable-timestamp y m d h i s
comparable-is (spatial n s) e = absurd (false≢true e)
comparable-is (id s) e = comparable_id s
comparable-is (monadic o t) e = absurd (false≢true e)
comparable-is (dyadic o t u) e = absurd (false≢true e)
comparable-is (function n ts) e = absurd (false≢true e)
comparable-is (array ts) e = absurd (false≢true e)
comparable-is (interval t u) e = absurd (false≢true e)

-- Filters.
pub data FilterIs : Tree → Type 0 where
  null_filter : FilterIs null
  bool_filter : (b : Bool) → FilterIs (bool b)
  monadic_filter : (o : Op) (t : Tree) → FilterIs (monadic o t)
  dyadic_filter : (o : Op) (t u : Tree) → FilterIs (dyadic o t u)

pub filter-is : (t : Tree) → time_filter t ≡ true → FilterIs t
unfolding time_filter by_operator
filter-is null e = null_filter
filter-is unbounded e = absurd (false≢true e)
filter-is (bool b) e = bool_filter b
filter-is (num m s) e = absurd (false≢true e)
filter-is (str f s) e = absurd (false≢true e)
filter-is (date y m d) e = absurd (false≢true e)
filter-is (timestamp y m d h i s) e = absurd (false≢true e)
filter-is (spatial n s) e = absurd (false≢true e)
filter-is (id s) e = absurd (false≢true e)
filter-is (monadic o t) e = monadic_filter o t
filter-is (dyadic o t u) e = dyadic_filter o t u
filter-is (function n ts) e = absurd (false≢true e)
filter-is (array ts) e = absurd (false≢true e)
filter-is (interval t u) e = absurd (false≢true e)
