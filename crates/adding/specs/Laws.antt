-- Marks and bytes keep the four laws. Assumes nothing.
use Rattle.std.specs.Prelude.{◌≡◌, Bool, true, false, bit_xor, refl}
use Rattle.std.specs.Int.Bits.{xor_assoc, xor_zero_r, xor_self}
use Rattle.std.proofs.lemmas.Nat.{xor_comm}
use Rattle.adding.specs.Sums.{Laws, differ}

pub byte_laws : Laws 0 bit_xor
byte_laws = record { assoc = xor_assoc; comm = xor_comm; neutral = xor_zero_r; cancels = xor_self }

pub mark_laws : Laws false differ
mark_laws = record { assoc = assoc; comm = comm; neutral = neutral; cancels = cancels }
  where
    assoc : (x y z : Bool) → differ (differ x y) z ≡ differ x (differ y z)
    assoc false y z = refl
    assoc true false z = refl
    assoc true true false = refl
    assoc true true true = refl

    comm : (x y : Bool) → differ x y ≡ differ y x
    comm false false = refl
    comm false true = refl
    comm true false = refl
    comm true true = refl

    neutral : (x : Bool) → differ x false ≡ x
    neutral false = refl
    neutral true = refl

    cancels : (x : Bool) → differ x x ≡ false
    cancels false = refl
    cancels true = refl
