-- The reserved words as a table of bytes, for the contracts of the look-up: for each length from 0 to 17 the table says in three bytes where the
-- words of that length begin, low byte first, and how many they are. No definition of the papers rests on it.
use Rattle.std.specs.Prelude.{ℕ, zero, suc, ◌+◌, ◌-◌, ◌*◌, ◌/◌, ◌%◌, ◌^◌, ◌≤◌, ◌≡◌, List, [], ◌∷◌, ◌++◌, Bool, false, eqb, length, get_or, take, drop}
use Rattle.prelude.specs.Choice.{both, negated, some, same}
use Rattle.keyword.specs.Keywords.{keywords}
use Rattle.keyword.specs.Reserved.{reserved_words}

-- document 01's words and SQLite's
abbrev pub reserved_list : List (List ℕ)
reserved_list = reserved_words ++ keywords

unfoldable pub place_in : List ℕ → ℕ → ℕ
place_in table n = get_or table (3 * n) 0 + 256 * get_or table (3 * n + 1) 0

unfoldable pub count_in : List ℕ → ℕ → ℕ
count_in table n = get_or table (3 * n + 2) 0

-- the first k words of a text, each of n bytes
abbrev pub cut : ℕ → ℕ → List ℕ → List (List ℕ)
cut zero n t = []
cut (suc k) n t = take n t ∷ cut k n (drop n t)

-- the words of n bytes
abbrev pub words_in : List ℕ → ℕ → List (List ℕ)
words_in table n = cut (count_in table n) n (drop (place_in table n) table)

-- the words of each length lie inside the table, and are the reserved words of that length
pub record Lists (table : List ℕ) : Type 0 where
  pub long : 54 ≤ length table
  pub inside : (n : ℕ) → n ≤ 17 → place_in table n + count_in table n * n ≤ length table
  pub right : (u : List ℕ) → length u ≤ 17 → some (same u) (words_in table (length u)) ≡ some (same u) reserved_list

-- a set of numbers below 64, a bit for each, has k
unfoldable pub has_bit : ℕ → ℕ → Bool
has_bit set k = eqb (set / 2 ^ k % 2) 1

-- a number that a word has in any letter case, from its length, its second and its last letter
unfoldable pub mark_of : List ℕ → ℕ
mark_of s = (9 * length s + 2 * (get_or s 1 0 + get_or s (length s - 1) 0)) % 64

-- the word begins with the letter, and the set lacks its number
abbrev pub lacks : (List ℕ → ℕ) → ℕ → ℕ → List ℕ → Bool
lacks f letter set w = both (eqb (get_or w 0 0 % 32) letter) (negated (has_bit set (f w)))

-- the set has the number of each reserved word that begins with the letter
abbrev pub Covers : (List ℕ → ℕ) → ℕ → ℕ → Type 0
Covers f letter set = some (lacks f letter set) reserved_list ≡ false
