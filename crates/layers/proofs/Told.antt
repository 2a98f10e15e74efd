-- What a layer tells beforehand comes from what the store below tells. Assumes nothing.
use Rattle.std.proofs.Common.{◌≡◌, ℕ, Bool, false, is_some, Some, None, Option, unwrap_or, refl, ap}
use Rattle.std.proofs.lemmas.Bool.{both_ways}
use Rattle.std.specs.Option.{option_map}

pub told_below : (g : (ℕ → Bool) → ℕ → Bool) (o : Option (ℕ → Bool)) (t : ℕ → Bool) → option_map g o ≡ Some t → (u : ℕ → Bool) × (o ≡ Some u) × (g u ≡ t)
told_below g None t e = absurd (both_ways false refl (ap is_some e))
told_below g (Some u) t e = (u, refl, ap (λ o. unwrap_or o (g u)) e)
