-- What a search among the spares answers. Assumes nothing.
use Rattle.std.proofs.Common.{◌≡◌, ℕ, ◌+◌, ◌<◌, Bool, true, false, ◌&&◌, List, length, get_or, Some, None, sym, ap, ◌∙◌, arith}
use Rattle.std.proofs.lemmas.Bool.Decides.{nat_tests}
use Rattle.cells.specs.Meaning.{Meaning}
use Rattle.cells.specs.Calls.{accepts}
use Rattle.layers.specs.declared.spare.Spare.{Spare}
use Rattle.layers.specs.declared.spare.Spare.TheVariants.{Free}
use Rattle.layers.specs.Lowest.{lowest, found}
use Rattle.layers.specs.Spared.{is_free, usable, accepting, next_spare}
use Rattle.layers.proofs.Lows.{low_first, low_passes}

-- the first that passes
found_first : (t : ℕ → Bool) (k j : ℕ) → j < k → t j ≡ true → ((i : ℕ) → i < j → t i ≡ false) → found k (lowest t k) ≡ Some j
found_first t k j under here before = grind (arith, nat_tests, low_first t k j under here, low_passes t k, before (lowest t k))

-- the spares of a table, where the store below means m
module _ (b : ℕ) (table : List Spare) (m : Meaning) (bytes : List ℕ) where
  pub next_first : (first : Meaning) (j : ℕ) → first ≡ m → j < length table → (is_free (get_or table j Free) && accepts first (b + j) bytes) ≡ true → ((i : ℕ) → i < j → usable b table (accepting m bytes) i ≡ false) → Some j ≡ found (length table) (next_spare (length table) b table (accepting m bytes))
  next_first first j same under here before =
      sym (found_first (usable b table (accepting m bytes)) (length table) j under (ap (λ (f : Meaning). usable b table (accepting f bytes) j) (sym same) ∙ here) before)

  pub next_none : ((i : ℕ) → i < length table → usable b table (accepting m bytes) i ≡ false) → None ≡ found (length table) (next_spare (length table) b table (accepting m bytes))
  next_none none =
      let t = usable b table (accepting m bytes) in
      let k = length table in
      grind (arith, nat_tests, low_passes t k, none (lowest t k))
