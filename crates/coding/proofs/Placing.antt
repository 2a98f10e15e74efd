-- Filling the line of a reduced row. Assumes nothing.
use Rattle.std.proofs.Common.{◌≡◌, suc, true, false, ◌↔◌, List, [], ◌∷◌, length, sym, refl, ap, ◌∙◌, subst, suc-ne-zero}
use native.Mathlib.Nat.{suc_inj}
use Rattle.std.specs.List.{AllByRecursion}
use Rattle.coding.specs.Rows.{Row}
use Rattle.coding.specs.Blocks.{marked}
use Rattle.coding.specs.Lines.{Slot, Slot.empty, Slot.filled, missing, Fits, Sound, reduce, Outcome, Outcome.dependent, Outcome.into, behind, place, insert}
use Rattle.coding.proofs.Spaces.{Space, In-marked}
use Rattle.coding.proofs.Reducing.{Reduced, none_from_same, same_from_none, length-reduce, In-reduce, reduce_keeps, reduced}

module _ {V : Type 0} {In : V → Type 0} {none : V} {add : V → V → V} (sp : Space In none add) where
  -- the blocks of as many fragments as there are lines
  abbrev pub Whole : List (Slot V) → List V → Type 0
  Whole ls b = (length b ≡ length ls) × AllByRecursion In b

  -- what placing a reduced row does
  abbrev pub Placed : List (Slot V) → Row → V → Outcome V → Type 0
  Placed ls c p (dependent q) = (q ≡ p) × ((b : List V) → marked none add c b ≡ none)
  Placed ls c p (into ls') =
      Sound In ls' × (length ls' ≡ length ls) × (missing ls ≡ suc (missing ls'))
      × ((b : List V) → Whole ls b → Fits none add ls' b ↔ (Fits none add ls b × (marked none add c b ≡ p)))

  no_marks : (c : Row) → ((b : List V) → marked none add c b ≡ none) → (b : List V) → marked none add (false ∷ c) b ≡ none
  no_marks c h [] = refl
  no_marks c h (f ∷ b) = h b

  behind_empty : (ls : List (Slot V)) (c : Row) (p : V) (o : Outcome V) → Placed ls c p o → Placed (empty ∷ ls) (false ∷ c) p (behind empty o)
  behind_empty ls c p (dependent q) h = (h.0, no_marks c h.1)
  behind_empty ls c p (into ls') h = (h.0, ap suc h.1, ap suc h.2, λ b w. both b w)
    where
      both : (b : List V) → Whole (empty ∷ ls) b → Fits none add (empty ∷ ls') b ↔ (Fits none add (empty ∷ ls) b × (marked none add (false ∷ c) b ≡ p))
      both [] w = absurd (suc-ne-zero (length ls) (sym w.0))
      both (f ∷ b) w = h.3 b (suc_inj w.0, w.1.1)

  behind-filled : (t : Row) (r : V) (ls : List (Slot V)) (c : Row) (p : V) (o : Outcome V)
      → length t ≡ length ls → In r → Placed ls c p o → Placed (filled t r ∷ ls) (false ∷ c) p (behind (filled t r) o)
  behind-filled t r ls c p (dependent q) e i h = (h.0, no_marks c h.1)
  behind-filled t r ls c p (into ls') e i h = ((e ∙ sym h.1, i, h.0), ap suc h.1, h.2, λ b w. both b w)
    where
      both : (b : List V) → Whole (filled t r ∷ ls) b
          → Fits none add (filled t r ∷ ls') b ↔ (Fits none add (filled t r ∷ ls) b × (marked none add (false ∷ c) b ≡ p))
      both [] w = absurd (suc-ne-zero (length ls) (sym w.0))
      both (f ∷ b) w =
          let k : Fits none add ls' b ↔ (Fits none add ls b × (marked none add c b ≡ p)) = h.3 b (suc_inj w.0, w.1.1) in
          (λ x. ((x.0, (k.0 x.1).0), (k.0 x.1).1), λ y. (y.0.0, k.1 (y.0.1, y.1)))

  pub placed : (ls : List (Slot V)) (c : Row) (p : V) → Sound In ls → length c ≡ length ls → In p → Reduced ls c → Placed ls c p (place ls c p)
  placed [] [] p s e h r = (refl, λ b. refl)
  placed [] (m ∷ c) p s e h r = absurd (suc-ne-zero (length c) e)
  placed (l ∷ ls) [] p s e h r = (refl, λ b. refl)
  placed (empty ∷ ls) (false ∷ c) p s e h r = behind_empty ls c p (place ls c p) (placed ls c p s (suc_inj e) h r)
  placed (filled t q ∷ ls) (false ∷ c) p s e h r =
      behind-filled t q ls c p (place ls c p) s.0 s.1 (placed ls c p s.2 (suc_inj e) h r)
  placed (empty ∷ ls) (true ∷ c) p s e h r = ((suc_inj e, h, s), refl, refl, λ b w. both b w)
    where
      both : (b : List V) → Whole (empty ∷ ls) b → Fits none add (filled c p ∷ ls) b ↔ (Fits none add (empty ∷ ls) b × (marked none add (true ∷ c) b ≡ p))
      both [] w = absurd (suc-ne-zero (length ls) (sym w.0))
      both (f ∷ b) w = (λ x. (x.1, x.0), λ y. (y.1, y.0))
  placed (filled t q ∷ ls) (true ∷ c) p s e h r = absurd r

  -- what an insertion does, in terms of the row and the bytes that came
  abbrev pub Inserted : List (Slot V) → Row → V → Outcome V → Type 0
  Inserted ls c p (dependent q) = In q × ((b : List V) → Whole ls b → Fits none add ls b → (marked none add c b ≡ p) ↔ (q ≡ none))
  Inserted ls c p (into ls') =
      Sound In ls' × (length ls' ≡ length ls) × (missing ls ≡ suc (missing ls'))
      × ((b : List V) → Whole ls b → Fits none add ls' b ↔ (Fits none add ls b × (marked none add c b ≡ p)))

  module _ (ls : List (Slot V)) (c : Row) (p : V) (s : Sound In ls) (e : length c ≡ length ls) (h : In p) where
    pub same_left : (b : List V) → Whole ls b → Fits none add ls b
        → (marked none add (reduce add ls c p).row b ≡ (reduce add ls c p).bytes) ↔ (marked none add c b ≡ p)
    same_left b w f =
        let k = reduce_keeps sp ls c p b s e h w.0 w.1 f in
        let m : (r : Row) → In (marked none add r b) = λ r. In-marked sp r b w.1 in (
          λ x. same_from_none sp _ _ (m c) h (sym k ∙ none_from_same sp _ _ (m (reduce add ls c p).row) x),
          λ x. same_from_none sp _ _ (m (reduce add ls c p).row) (In-reduce sp ls c p s h) (k ∙ none_from_same sp _ _ (m c) x),
        )

    from_placed : (o : Outcome V) → Placed ls (reduce add ls c p).row (reduce add ls c p).bytes o → Inserted ls c p o
    from_placed (dependent q) x = (
      subst In (sym x.0) (In-reduce sp ls c p s h),
      λ b w f. let k = same_left b w f in
          (λ y. x.0 ∙ sym (k.1 y) ∙ x.1 b, λ y. k.0 (x.1 b ∙ sym y ∙ x.0)),
    )
    from_placed (into ls') x = (
      x.0,
      x.1,
      x.2,
      λ b w. let k = x.3 b w in
          (λ y. ((k.0 y).0, (same_left b w (k.0 y).0).0 (k.0 y).1), λ y. k.1 (y.0, (same_left b w y.0).1 y.1)),
    )

    pub inserted : Inserted ls c p (insert add ls c p)
    inserted =
        from_placed (insert add ls c p)
        (placed ls (reduce add ls c p).row (reduce add ls c p).bytes s (length-reduce sp ls c p s e) (In-reduce sp ls c p s h) (reduced sp ls c p))
