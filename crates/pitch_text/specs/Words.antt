-- Lines, words and numbers in a list of bytes.
use Rattle.std.specs.Prelude.{ℕ, ◌+◌, ◌-◌, ◌*◌, Bool, cond, ◌&&◌, ◌||◌, List, [], ◌∷◌, length, take, ℤ, pos, neg_ℤ, Some, None, Option, ◌==◌, nat_eq, nat_le, slice_index}
use Rattle.std.specs.Option.{option_map, option_and_then}

-- the bytes before the first that passes a test, or all
abbrev pub up_to : (ℕ → Bool) → List ℕ → List ℕ
up_to p [] = []
up_to p (x ∷ xs) = cond (p x) [] (x ∷ up_to p xs)

abbrev pub before : ℕ → List ℕ → List ℕ
before b xs = up_to (λ x. nat_eq x b) xs

-- a line without the line feed at its end
abbrev pub without_feed : List ℕ → List ℕ
without_feed xs = cond (nat_le 1 (length xs) && slice_index xs (length xs - 1) == 10) (take (length xs - 1) xs) xs

-- one more byte in front of the first piece
abbrev pub onto : ℕ → List (List ℕ) → List (List ℕ)
onto x [] = (x ∷ []) ∷ []
onto x (w ∷ ws) = (x ∷ w) ∷ ws

-- each line ends with a line feed, which the last may lack
abbrev pub lines_of : List ℕ → List (List ℕ)
lines_of [] = []
lines_of (x ∷ xs) = cond (x == 10) ([] ∷ lines_of xs) (onto x (lines_of xs))

-- space, tab and carriage return
abbrev pub blank : ℕ → Bool
blank x = x == 32 || x == 9 || x == 13

-- a byte that is not blank, before xs, whose words are ws
abbrev pub joins : ℕ → List ℕ → List (List ℕ) → List (List ℕ)
joins x [] ws = (x ∷ []) ∷ ws
joins x (y ∷ ys) ws = cond (blank y) ((x ∷ []) ∷ ws) (onto x ws)

-- the words of a line
abbrev pub words_of : List ℕ → List (List ℕ)
words_of [] = []
words_of (x ∷ xs) = cond (blank x) (words_of xs) (joins x xs (words_of xs))

-- a blank or the `#` before a comment
abbrev pub ends_word : ℕ → Bool
ends_word x = blank x || x == 35

-- the words of a line up to its comment
abbrev pub spoken : List ℕ → List (List ℕ)
spoken xs = words_of (before 35 xs)

abbrev pub digit : ℕ → Bool
digit x = nat_le 48 x && nat_le x 57

-- a digit after those that make n, as a number of at most limit
abbrev pub digit_after : ℕ → ℕ → ℕ → Option ℕ
digit_after limit n x = cond (digit x && nat_le (n * 10 + (x - 48)) limit) (Some (n * 10 + (x - 48))) None

-- digits after those that make n
abbrev pub read_on : ℕ → ℕ → List ℕ → Option ℕ
read_on limit n [] = Some n
read_on limit n (x ∷ xs) = option_and_then (λ m. read_on limit m xs) (digit_after limit n x)

-- a decimal number of at most limit
abbrev pub numeral : ℕ → List ℕ → Option ℕ
numeral limit [] = None
numeral limit (x ∷ xs) = read_on limit 0 (x ∷ xs)

-- a number of 16 bits, with a minus in front where it is below 0
abbrev pub signed_in : List ℕ → Option ℤ
signed_in [] = None
signed_in (x ∷ xs) = cond (x == 45) (option_map (λ n. neg_ℤ (pos n)) (numeral 32768 xs)) (option_map pos (numeral 32767 (x ∷ xs)))
