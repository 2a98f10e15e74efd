-- How many fragments a block has. Assumes nothing.
use Rattle.std.specs.Prelude.{◌≡◌, ℕ, ◌+◌, ◌-◌, ◌*◌, ◌/◌, ◌<◌, ◌≤◌, Bool, cond, ◌&&◌, Some, None, Option, nat_le}
use Rattle.coding.specs.Blocks.{most_fragments, largest_fragment}
use Rattle.cutting.specs.declared.layout.Layout.{Layout}

-- the number of fragments: the length over the size, rounded up
abbrev pub fragments : ℕ → ℕ → ℕ
fragments length size = (length - 1) / size + 1

-- length and size that can be cut
abbrev pub fits : ℕ → ℕ → Bool
fits length size = nat_le 1 size && nat_le size largest_fragment && nat_le 1 length && nat_le (fragments length size) most_fragments

abbrev pub layout_of : ℕ → ℕ → Option Layout
layout_of length size =
    cond (fits length size) (Some (record { fragments = fragments length size; padding = fragments length size * size - length })) None

-- the fragments hold the block and the padding, which is less than a fragment
abbrev pub Exact : ℕ → ℕ → Option Layout → Type 0
Exact length size None = Unit {0}
Exact length size (Some l) = (l.fragments * size ≡ length + l.padding) × (l.padding < size) × (1 ≤ l.fragments) × (l.fragments ≤ most_fragments)
