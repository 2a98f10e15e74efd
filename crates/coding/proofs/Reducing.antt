-- Reducing a row and its bytes by the lines. Assumes nothing.
use Rattle.std.proofs.Common.{◌≡◌, suc, true, false, List, [], ◌∷◌, length, sym, refl, ap, ◌∙◌, suc-ne-zero}
use native.Mathlib.Nat.{suc_inj}
use Rattle.std.specs.List.{AllByRecursion}
use Rattle.adding.specs.Sums.{sum, differ}
use Rattle.adding.proofs.Lists.{length-sum}
use Rattle.coding.specs.Rows.{Row}
use Rattle.coding.specs.Blocks.{marked}
use Rattle.coding.specs.Lines.{Slot, Slot.empty, Slot.filled, Fits, Sound, reduce}
use Rattle.coding.proofs.Spaces.{Space, swap, cancel, In-marked, linear}

-- no yes of the row stands at a filled line
abbrev pub Reduced : {V : Type 0} → List (Slot V) → Row → Type 0
Reduced [] c = Unit {0}
Reduced (l ∷ ls) [] = Unit {0}
Reduced (l ∷ ls) (false ∷ c) = Reduced ls c
Reduced (empty ∷ ls) (true ∷ c) = Reduced ls c
Reduced (filled t q ∷ ls) (true ∷ c) = ⊥

module _ {V : Type 0} {In : V → Type 0} {none : V} {add : V → V → V} (sp : Space In none add) where
  -- x + y is zero exactly where x is y
  pub none_from_same : (x y : V) → In x → x ≡ y → add x y ≡ none
  none_from_same x y hx e = ap (add x) (sym e) ∙ sp.self x hx

  pub same_from_none : (x y : V) → In x → In y → add x y ≡ none → x ≡ y
  same_from_none x y hx hy e =
      sym (cancel sp y x hy hx) ∙ ap (add y) (sp.comm y x ∙ e) ∙ sp.comm y none ∙ sp.unit y hy

  pub length-reduce : (ls : List (Slot V)) (c : Row) (p : V) → Sound In ls → length c ≡ length ls
      → length (reduce add ls c p).row ≡ length ls
  length-reduce [] c p s e = e
  length-reduce (l ∷ ls) [] p s e = e
  length-reduce (empty ∷ ls) (false ∷ c) p s e = ap suc (length-reduce ls c p s (suc_inj e))
  length-reduce (filled t q ∷ ls) (false ∷ c) p s e = ap suc (length-reduce ls c p s.2 (suc_inj e))
  length-reduce (empty ∷ ls) (true ∷ c) p s e = ap suc (length-reduce ls c p s (suc_inj e))
  length-reduce (filled t q ∷ ls) (true ∷ c) p s e =
      ap suc (length-reduce ls (sum differ c t) (add p q) s.2
      (length-sum differ c t (suc_inj e ∙ sym s.0) ∙ suc_inj e))

  pub In-reduce : (ls : List (Slot V)) (c : Row) (p : V) → Sound In ls → In p → In (reduce add ls c p).bytes
  In-reduce [] c p s h = h
  In-reduce (l ∷ ls) [] p s h = h
  In-reduce (empty ∷ ls) (false ∷ c) p s h = In-reduce ls c p s h
  In-reduce (filled t q ∷ ls) (false ∷ c) p s h = In-reduce ls c p s.2 h
  In-reduce (empty ∷ ls) (true ∷ c) p s h = In-reduce ls c p s h
  In-reduce (filled t q ∷ ls) (true ∷ c) p s h = In-reduce ls (sum differ c t) (add p q) s.2 (sp.In-add p q h s.1)

  -- a block that fits the lines is as far from what is left as from what came
  pub reduce_keeps : (ls : List (Slot V)) (c : Row) (p : V) (b : List V)
      → Sound In ls → length c ≡ length ls → In p → length b ≡ length ls → AllByRecursion In b → Fits none add ls b
      → add (marked none add (reduce add ls c p).row b) (reduce add ls c p).bytes ≡ add (marked none add c b) p
  reduce_keeps [] c p b s e h k a f = refl
  reduce_keeps (l ∷ ls) [] p b s e h k a f = refl
  reduce_keeps (l ∷ ls) (m ∷ c) p [] s e h k a f = absurd (suc-ne-zero (length ls) (sym k))
  reduce_keeps (empty ∷ ls) (false ∷ c) p (x ∷ b) s e h k a f = reduce_keeps ls c p b s (suc_inj e) h (suc_inj k) a.1 f
  reduce_keeps (filled t q ∷ ls) (false ∷ c) p (x ∷ b) s e h k a f =
      reduce_keeps ls c p b s.2 (suc_inj e) h (suc_inj k) a.1 f.1
  reduce_keeps (empty ∷ ls) (true ∷ c) p (x ∷ b) s e h k a f =
      sp.assoc x _ _ ∙ ap (add x) (reduce_keeps ls c p b s (suc_inj e) h (suc_inj k) a.1 f) ∙ sym (sp.assoc x _ _)
  reduce_keeps (filled t q ∷ ls) (true ∷ c) p (x ∷ b) s e h k a f =
      let ct : length c ≡ length t = suc_inj e ∙ sym s.0 in
      let C : V = marked none add c b in
      let T : V = marked none add t b in
      reduce_keeps ls (sum differ c t) (add p q) b s.2 (length-sum differ c t ct ∙ suc_inj e) (sp.In-add p q h s.1) (suc_inj k) a.1 f.1
      ∙ ap (λ (y : V). add y (add p q)) (linear sp c t b ct a.1)
      ∙ swap sp C T p q
      ∙ ap (λ (y : V). add (add C p) (add T y)) (sym f.0 ∙ sp.comm x T)
      ∙ ap (add (add C p)) (cancel sp T x (In-marked sp t b a.1) a.0)
      ∙ sp.comm (add C p) x
      ∙ sym (sp.assoc x C p)

  -- what is left of a row has no yes at a filled line
  pub reduced : (ls : List (Slot V)) (c : Row) (p : V) → Reduced ls (reduce add ls c p).row
  reduced [] c p = tt
  reduced (l ∷ ls) [] p = tt
  reduced (l ∷ ls) (false ∷ c) p = reduced ls c p
  reduced (empty ∷ ls) (true ∷ c) p = reduced ls c p
  reduced (filled t q ∷ ls) (true ∷ c) p = reduced ls (sum differ c t) (add p q)
