-- The block of bytes of a table, and the table of a block.
use Rattle.std.specs.Prelude.{◌≡◌, ℕ, ◌+◌, ◌*◌, ◌/◌, ◌%◌, Bool, true, cond, ◌&&◌, ◌⊎◌, List, [], ◌∷◌, ◌++◌, map, drop, length, is_ok, Some, None, Ok, Err, vec_items, Option, Result, ◌==◌, nat_le, slice_index}
use Rattle.std.proofs.Common.{to_z, of_z}
use Rattle.std.specs.Int.{w16}
use Rattle.std.specs.List.{flat_map}
use Rattle.std.specs.Simd.{first_chunks}
use Rattle.pitch.specs.Limits.{most_millimetres}
use Rattle.pitch.specs.declared.table.Axis.{Axis}
use Rattle.pitch.specs.declared.table.Axis.TheVariants.{X, Y, Z}
use Rattle.pitch.specs.declared.table.Entry.{Entry}
use Rattle.pitch.specs.declared.table.Table.{Table}
use Rattle.pitch.specs.declared.pack.PitchFault.{PitchFault}
use Rattle.pitch.specs.declared.pack.PitchFault.TheVariants.{Memory, Header, Axis as NoAxis, Count, Length}

-- what a table holds
pub record Parts : Type 0 where
  pub axis : Axis
  pub screw : ℕ
  pub entries : List Entry

abbrev pub parts_of : Table → Parts
parts_of t = record { axis = t.axis; screw = t.screw; entries = vec_items t.entries }

abbrev pub code : Axis → ℕ
code X = 0
code Y = 1
code Z = 2

-- the four bytes of a millimetre
abbrev pub four_of : Entry → List ℕ
four_of e = (of_z w16 e.forward % 256) ∷ (of_z w16 e.forward / 256 % 256) ∷ (of_z w16 e.back % 256) ∷ (of_z w16 e.back / 256 % 256) ∷ []

-- the first eight bytes of a block with n millimetres
abbrev pub head_of : Axis → ℕ → ℕ → List ℕ
head_of a s n = 80 ∷ 84 ∷ code a ∷ (s % 256) ∷ (s / 256 % 256) ∷ (n % 256) ∷ (n / 256 % 256) ∷ 0 ∷ []

-- the block of a table
abbrev pub block_of : Parts → List ℕ
block_of p = head_of p.axis p.screw (length p.entries) ++ flat_map four_of p.entries

-- the millimetre of four bytes
abbrev pub entry_in : List ℕ → Entry
entry_in b = record { forward = to_z w16 (slice_index b 0 + slice_index b 1 * 256); back = to_z w16 (slice_index b 2 + slice_index b 3 * 256) }

abbrev pub screw_in : List ℕ → ℕ
screw_in bs = slice_index bs 3 + slice_index bs 4 * 256

abbrev pub count_in : List ℕ → ℕ
count_in bs = slice_index bs 5 + slice_index bs 6 * 256

-- the first n millimetres of a block, four bytes each after the head
abbrev pub entries_in : List ℕ → ℕ → List Entry
entries_in bs n = map entry_in (first_chunks 4 n (drop 8 bs))

abbrev pub axis_of : ℕ → Option Axis
axis_of b = cond (b == 0) (Some X) (cond (b == 1) (Some Y) (cond (b == 2) (Some Z) None))

-- eight bytes or more, with the fixed ones right
abbrev pub headed : List ℕ → Bool
headed bs = nat_le 8 (length bs) && slice_index bs 0 == 80 && slice_index bs 1 == 84 && slice_index bs 7 == 0

-- the faults of the count and of the length, in this order
abbrev pub sized : List ℕ → Axis → Result Parts PitchFault
sized bs a = cond (nat_le (count_in bs) most_millimetres)
    (cond (length bs == 8 + 4 * count_in bs) (Ok (record { axis = a; screw = screw_in bs; entries = entries_in bs (count_in bs) })) (Err Length))
    (Err Count)

abbrev pub with_axis : List ℕ → Option Axis → Result Parts PitchFault
with_axis bs None = Err NoAxis
with_axis bs (Some a) = sized bs a

-- what a block says, or the first fault in it
abbrev pub parsed : List ℕ → Result Parts PitchFault
parsed bs = cond (headed bs) (with_axis bs (axis_of (slice_index bs 2))) (Err Header)

-- the answer is what was wanted, unless a table was wanted and there is not enough memory
abbrev pub Unpacks : Result Table PitchFault → Result Parts PitchFault → Type 0
Unpacks (Ok t) want = want ≡ Ok (parts_of t)
Unpacks (Err e) want = (want ≡ Err e) ⊎ ((e ≡ Memory) × (is_ok want ≡ true))
