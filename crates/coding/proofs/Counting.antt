-- How many rows leave one block. Assumes nothing.
use Rattle.std.proofs.Common.{◌≡◌, ℕ, zero, suc, ◌+◌, ◌<◌, ◌≤◌, true, false, ◌≢◌, List, [], ◌∷◌, map, length, replicate, sym, refl, ap, ◌∙◌, ap₂, suc-ne-zero, arith}
use native.Mathlib.Nat.{suc_inj}
use lib.ListN.{length-map, length-replicate}
use Rattle.std.specs.List.{AllByRecursion}
use Rattle.std.proofs.ByRecursion.{All-map, All-weaker}
use Rattle.coding.specs.Rows.{Row}
use Rattle.coding.specs.Blocks.{marked}
use Rattle.coding.specs.Lines.{Slot, Slot.empty, Slot.filled, missing, Fits, Sound, Outcome, Outcome.dependent, Outcome.into, insert, settle}
use Rattle.coding.proofs.Spaces.{Space, cancel, In-marked}
use Rattle.coding.proofs.Placing.{Whole, Inserted, inserted}
use Rattle.coding.proofs.Settling.{solved, Whole-settle, Fits-settle, In-settle, length-settle}

-- the rows that have their only yes at an empty line
abbrev pub free : {V : Type 0} → List (Slot V) → List Row
free [] = []
free (empty ∷ ls) = (true ∷ replicate (length ls) false) ∷ map (λ (r : Row). false ∷ r) (free ls)
free (filled t q ∷ ls) = map (λ (r : Row). false ∷ r) (free ls)

All-unmap : {X Y : Type 0} (P : Y → Type 0) (f : X → Y) (xs : List X) → AllByRecursion P (map f xs) → AllByRecursion (λ (x : X). P (f x)) xs
All-unmap P f [] h = tt
All-unmap P f (x ∷ xs) h = (h.0, All-unmap P f xs h.1)

module _ {V : Type 0} where
  pub length-free : (ls : List (Slot V)) → length (free ls) ≡ missing ls
  length-free [] = refl
  length-free (empty ∷ ls) = ap suc (length-map (free ls) (λ (r : Row). false ∷ r) ∙ length-free ls)
  length-free (filled t q ∷ ls) = length-map (free ls) (λ (r : Row). false ∷ r) ∙ length-free ls

  pub rows_free : (ls : List (Slot V)) → AllByRecursion (λ (r : Row). length r ≡ length ls) (free ls)
  rows_free [] = tt
  rows_free (empty ∷ ls) = (
    ap suc (length-replicate (length ls) false),
    All-map (λ (r : Row). length r ≡ suc (length ls)) (λ (r : Row). false ∷ r) (free ls)
        (All-weaker (λ (r : Row). length r ≡ length ls) (λ (r : Row). suc (length r) ≡ suc (length ls)) (λ r e. ap suc e) (free ls) (rows_free ls)),
  )
  rows_free (filled t q ∷ ls) =
      All-map (λ (r : Row). length r ≡ suc (length ls)) (λ (r : Row). false ∷ r) (free ls)
      (All-weaker (λ (r : Row). length r ≡ length ls) (λ (r : Row). suc (length r) ≡ suc (length ls)) (λ r e. ap suc e) (free ls) (rows_free ls))

module _ {V : Type 0} {In : V → Type 0} {none : V} {add : V → V → V} (sp : Space In none add) where
  -- the two blocks have the same under each row
  abbrev pub Alike : List Row → List V → List V → Type 0
  Alike rows b b' = AllByRecursion (λ (r : Row). marked none add r b ≡ marked none add r b') rows

  nothing_marked : (n : ℕ) (b : List V) → marked none add (replicate n false) b ≡ none
  nothing_marked zero b = refl
  nothing_marked (suc n) [] = refl
  nothing_marked (suc n) (f ∷ b) = nothing_marked n b

  right_unit : (x : V) → In x → add x none ≡ x
  right_unit x h = sp.comm x none ∙ sp.unit x h

  right_cancel : (x y z : V) → In x → In y → In z → add x z ≡ add y z → x ≡ y
  right_cancel x y z hx hy hz e =
      sym (cancel sp z x hz hx) ∙ ap (add z) (sp.comm z x ∙ e ∙ sp.comm y z) ∙ cancel sp z y hz hy

  -- blocks that fit the lines and are alike under the free rows are equal
  pub pinned : (ls : List (Slot V)) (b b' : List V) → Sound In ls → Whole sp ls b → Whole sp ls b'
      → Fits none add ls b → Fits none add ls b' → Alike (free ls) b b' → b ≡ b'
  pinned [] [] [] s w w' f f' a = refl
  pinned [] [] (y ∷ b') s w w' f f' a = absurd (suc-ne-zero (length b') w'.0)
  pinned [] (x ∷ b) b' s w w' f f' a = absurd (suc-ne-zero (length b) w.0)
  pinned (l ∷ ls) [] b' s w w' f f' a = absurd (suc-ne-zero (length ls) (sym w.0))
  pinned (l ∷ ls) (x ∷ b) [] s w w' f f' a = absurd (suc-ne-zero (length ls) (sym w'.0))
  pinned (empty ∷ ls) (x ∷ b) (y ∷ b') s w w' f f' a =
      ap₂ {C = List V} (λ (h : V) (t : List V). h ∷ t)
      (sym (ap (add x) (nothing_marked (length ls) b) ∙ right_unit x w.1.0) ∙ a.0 ∙ ap (add y) (nothing_marked (length ls) b') ∙ right_unit y w'.1.0)
      (pinned ls b b' s (suc_inj w.0, w.1.1) (suc_inj w'.0, w'.1.1) f f'
      (All-unmap (λ (r : Row). marked none add r (x ∷ b) ≡ marked none add r (y ∷ b')) (λ (r : Row). false ∷ r) (free ls) a.1))
  pinned (filled t q ∷ ls) (x ∷ b) (y ∷ b') s w w' f f' a =
      let e : b ≡ b' = pinned ls b b' s.2 (suc_inj w.0, w.1.1) (suc_inj w'.0, w'.1.1) f.1 f'.1
      (All-unmap (λ (r : Row). marked none add r (x ∷ b) ≡ marked none add r (y ∷ b')) (λ (r : Row). false ∷ r) (free ls) a) in
      ap₂ {C = List V} (λ (h : V) (t : List V). h ∷ t)
      (right_cancel x y (marked none add t b) w.1.0 w'.1.0 (In-marked sp t b w.1.1)
      (f.0 ∙ sym f'.0 ∙ ap (λ (z : List V). add y (marked none add t z)) (sym e)))
      e

  pub record Two (ls : List (Slot V)) : Type 0 where
    pub first : List V
    pub second : List V
    pub Whole-first : Whole sp ls first
    pub Whole-second : Whole sp ls second
    pub Fits-first : Fits none add ls first
    pub Fits-second : Fits none add ls second
    pub apart : first ≢ second

  -- where a line is empty, two different blocks fit
  pub two : (one : V) → In one → one ≢ none → (ls : List (Slot V)) → Sound In ls → 0 < missing ls → Two ls
  two one i n [] s m = absurd (omega arith)
  two one i n (empty ∷ ls) s m =
      record {
        first = none ∷ settle none add ls;
        second = one ∷ settle none add ls;
        Whole-first = (ap suc (length-settle sp ls), (sp.In-none, In-settle sp ls s));
        Whole-second = (ap suc (length-settle sp ls), (i, In-settle sp ls s));
        Fits-first = Fits-settle sp ls s;
        Fits-second = Fits-settle sp ls s;
        apart = λ e. let k : one ≡ none = cc in n k;
      }
  two one i n (filled t q ∷ ls) s m =
      let r : Two ls = two one i n ls s.2 m in
      record {
        first = add q (marked none add t r.first) ∷ r.first;
        second = add q (marked none add t r.second) ∷ r.second;
        Whole-first = (ap suc r.Whole-first.0, (sp.In-add q _ s.1 (In-marked sp t _ r.Whole-first.1), r.Whole-first.1));
        Whole-second = (ap suc r.Whole-second.0, (sp.In-add q _ s.1 (In-marked sp t _ r.Whole-second.1), r.Whole-second.1));
        Fits-first = (solved sp q _ s.1 (In-marked sp t _ r.Whole-first.1), r.Fits-first);
        Fits-second = (solved sp q _ s.1 (In-marked sp t _ r.Whole-second.1), r.Fits-second);
        apart = λ e. let k : r.first ≡ r.second = cc in r.apart k;
      }

  -- lines that fix, beside the given ones, what is under each of some rows, as a block has it
  pub record Refined (ls : List (Slot V)) (b₀ : List V) (rows : List Row) : Type 0 where
    pub lines : List (Slot V)
    pub sound : Sound In lines
    pub size : length lines ≡ length ls
    pub count : missing ls ≤ length rows + missing lines
    pub fits : (b : List V) → Whole sp ls b → Fits none add lines b → Fits none add ls b × Alike rows b b₀

  refine_dependent : (ls : List (Slot V)) (b₀ : List V) (r : Row) (rows : List Row) (q : V)
      → Whole sp ls b₀ → Fits none add ls b₀ → Inserted sp ls r (marked none add r b₀) (dependent q) → Refined ls b₀ rows → Refined ls b₀ (r ∷ rows)
  refine_dependent ls b₀ r rows q w f h k =
      record {
        lines = k.lines;
        sound = k.sound;
        size = k.size;
        count = omega (arith, k.count);
        fits = λ b v g. ((k.fits b v g).0, ((h.1 b v (k.fits b v g).0).1 ((h.1 b₀ w f).0 refl), (k.fits b v g).1));
      }

  refine_into : (ls ls' : List (Slot V)) (b₀ : List V) (r : Row) (rows : List Row)
      → Inserted sp ls r (marked none add r b₀) (into ls') → Refined ls' b₀ rows → Refined ls b₀ (r ∷ rows)
  refine_into ls ls' b₀ r rows h k =
      record {
        lines = k.lines;
        sound = k.sound;
        size = k.size ∙ h.1;
        count = omega (arith, k.count, h.2);
        fits = λ b w g.
            let w' : Whole sp ls' b = (w.0 ∙ sym h.1, w.1) in
            let x = k.fits b w' g in
            let y = (h.3 b w).0 x.0 in
            (y.0, (y.1, x.1));
      }

  pub refined : (rows : List Row) (ls : List (Slot V)) (b₀ : List V) → Sound In ls → AllByRecursion (λ (r : Row). length r ≡ length ls) rows
      → Whole sp ls b₀ → Fits none add ls b₀ → Refined ls b₀ rows
  refined [] ls b₀ s e w f = record { lines = ls; sound = s; size = refl; count = omega arith; fits = λ b v g. (g, tt) }
  refined (r ∷ rows) ls b₀ s e w f =
      go (insert add ls r (marked none add r b₀)) (inserted sp ls r (marked none add r b₀) s e.0 (In-marked sp r b₀ w.1))
      (λ ls' s' e' w' f'. refined rows ls' b₀ s' e' w' f')
    where
      go : (o : Outcome V) → Inserted sp ls r (marked none add r b₀) o
          → ((ls' : List (Slot V)) → Sound In ls' → AllByRecursion (λ (x : Row). length x ≡ length ls') rows → Whole sp ls' b₀ → Fits none add ls' b₀ → Refined ls' b₀ rows)
          → Refined ls b₀ (r ∷ rows)
      go (dependent q) h next = refine_dependent ls b₀ r rows q w f h (next ls s e.1 w f)
      go (into ls') h next =
          refine_into ls ls' b₀ r rows h
          (next ls' h.0
          (All-weaker (λ (x : Row). length x ≡ length ls) (λ (x : Row). length x ≡ length ls') (λ x k. k ∙ sym h.1) rows e.1)
          (w.0 ∙ sym h.1, w.1) ((h.3 b₀ w).1 (f, refl)))

  -- so fewer rows than lines are empty leave two blocks
  pub no_fewer : (one : V) → In one → one ≢ none → (ls : List (Slot V)) (rows : List Row) → Sound In ls
      → AllByRecursion (λ (r : Row). length r ≡ length ls) rows
      → ((b b' : List V) → Whole sp ls b → Whole sp ls b' → Fits none add ls b → Fits none add ls b' → Alike rows b b' → b ≡ b')
      → missing ls ≤ length rows
  no_fewer one i n ls rows s e only =
      let k = refined rows ls (settle none add ls) s e (Whole-settle sp ls s) (Fits-settle sp ls s) in
      go k (missing k.lines) refl
    where
      Alike-sym : (rs : List Row) (b b' b₀ : List V) → Alike rs b b₀ → Alike rs b' b₀ → Alike rs b b'
      Alike-sym [] b b' b₀ h h' = tt
      Alike-sym (r ∷ rs) b b' b₀ h h' = (h.0 ∙ sym h'.0, Alike-sym rs b b' b₀ h.1 h'.1)

      clash : (k : Refined ls (settle none add ls) rows) → Two k.lines → ⊥
      clash k t =
          let w : Whole sp ls t.first = (t.Whole-first.0 ∙ k.size, t.Whole-first.1) in
          let w' : Whole sp ls t.second = (t.Whole-second.0 ∙ k.size, t.Whole-second.1) in
          let x = k.fits t.first w t.Fits-first in
          let y = k.fits t.second w' t.Fits-second in
          t.apart (only t.first t.second w w' x.0 y.0 (Alike-sym rows t.first t.second (settle none add ls) x.1 y.1))

      go : (k : Refined ls (settle none add ls) rows) (m : ℕ) → missing k.lines ≡ m → missing ls ≤ length rows
      go k zero z = omega (arith, k.count)
      go k (suc m) z = absurd (clash k (two one i n k.lines k.sound (omega arith)))
