-- The lowest number that passes a test: what is known of it. Assumes nothing.
use Rattle.std.proofs.Common.{◌≡◌, ℕ, zero, suc, ◌+◌, ◌<◌, ◌≤◌, Bool, true, false, cond, List, length, get_or, refl, ap, ◌∙◌, ⊎_elim, arith}
use Rattle.std.proofs.lemmas.Bool.{cases_Bool}
use Rattle.std.specs.List.{position_or_len}
use Rattle.std.proofs.lemmas.List.Sums.{position_or_len_is}
use Rattle.layers.specs.Lowest.{lowest, lowest_from}

from_passes : (t : ℕ → Bool) (j n : ℕ) → lowest_from t j n < j + n → t (lowest_from t j n) ≡ true
from_passes t j zero h = absurd (omega arith)
from_passes t j (suc n) h = grind (arith, from_passes t (j + 1) n)

from_first : (t : ℕ → Bool) (j n i : ℕ) → j ≤ i → i < j + n → t i ≡ true → lowest_from t j n ≤ i
from_first t j zero i lo hi e = absurd (omega arith)
from_first t j (suc n) i lo hi e = grind (arith, from_first t (j + 1) n i)

from_same : (t u : ℕ → Bool) (j n : ℕ) → ((i : ℕ) → j ≤ i → i < j + n → t i ≡ u i) → lowest_from t j n ≡ lowest_from u j n
from_same t u j zero all = refl
from_same t u j (suc n) all =
    ap (λ b. cond b j (lowest_from t (j + 1) n)) (all j (omega arith) (omega arith))
    ∙ ap (λ x. cond (u j) j x) (from_same t u (j + 1) n (λ i lo hi. all i (omega arith) (omega arith)))

from_bound : (t : ℕ → Bool) (j n : ℕ) → lowest_from t j n ≤ j + n
from_bound t j zero = omega arith
from_bound t j (suc n) = grind (arith, from_bound t (j + 1) n)

-- what is found passes
pub low_passes : (t : ℕ → Bool) (k : ℕ) → lowest t k < k → t (lowest t k) ≡ true
low_passes t k h = from_passes t 0 k (omega arith)

-- tests that agree find the same
pub low_same : (t u : ℕ → Bool) (k : ℕ) → ((i : ℕ) → i < k → t i ≡ u i) → lowest t k ≡ lowest u k
low_same t u k all = from_same t u 0 k (λ i lo hi. all i (omega arith))

-- none below it passes
pub low_first : (t : ℕ → Bool) (k i : ℕ) → i < k → t i ≡ true → lowest t k ≤ i
low_first t k i h e = from_first t 0 k i (omega arith) (omega arith) e

-- where none passes, nothing is found
pub low_none : (t : ℕ → Bool) (k : ℕ) → ((i : ℕ) → t i ≡ false) → k ≤ lowest t k
low_none t k none = grind (arith, low_passes t k, none (lowest t k))

-- the only one that passes is found
pub low_only : (t : ℕ → Bool) (k i : ℕ) → i < k → t i ≡ true → ((h : ℕ) → h < k → t h ≡ true → h ≡ i) → lowest t k ≡ i
low_only t k i h e only = grind (arith, low_first t k i h e, low_passes t k, only (lowest t k))

-- it is where a search through a list finds it
pub low_position : {X : Type 0} (p : X → Bool) (xs : List X) (d : X) → position_or_len p xs ≡ lowest (λ j. p (get_or xs j d)) (length xs)
low_position p xs d =
    let t : ℕ → Bool = λ j. p (get_or xs j d) in
    let bound = from_bound t 0 (length xs) in
    position_or_len_is p xs (lowest t (length xs)) d (omega (arith, bound))
    (λ k h. ⊎_elim (λ e. absurd (omega (arith, bound, low_first t (length xs) k (omega (arith, bound)) e))) (λ e. e) (cases_Bool (t k)))
    (λ h. low_passes t (length xs) h)
