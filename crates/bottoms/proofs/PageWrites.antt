-- What a write makes of a page, and of the flash around it. Assumes nothing.
use Rattle.std.proofs.Common.{◌≡◌, ℕ, ◌+◌, ◌-◌, ◌*◌, ◌/◌, ◌%◌, ◌^◌, ◌<◌, ◌≤◌, true, cond, ltb, List, ◌++◌, length, take, drop, replicate, Ok, Err, sym, refl, ap, ◌∙◌, subst, arith, rules}
use native.Mathlib.Nat.{div-div-eq-div-mul}
use Rattle.std.proofs.lemmas.List.{places, take_at, drop_at, same_lists, take_rest, drop-replicate, length-replicate, length-append}
use Rattle.std.proofs.lemmas.Bool.{cond-true}
use Rattle.std.proofs.lemmas.Bool.Decides.{nat_tests}
use Rattle.cells.specs.declared.fault.StoreFault.TheVariants.{Worn}
use Rattle.cells.specs.Calls.{WroteBy, padded}
use Rattle.cells.proofs.Answered.{answer_at, told_each}
use Rattle.bottoms.specs.Parts.{whole_parts, with_part, put, part_room}
use Rattle.bottoms.specs.Pages.{erases_left, least_first, page_at, page_of, written_page, takes_after, flash, flash_buffer, PageWrite, FlashLaws}
use Rattle.bottoms.proofs.Partly.{put_part, length_with, part_here, part_there}

-- four bytes, least first, are the number again
four_is : (n : ℕ) → n < 2 ^ 32 → n % 256 + n / 256 % 256 * 256 + n / 65536 % 256 * 65536 + n / 16777216 % 256 * 16777216 ≡ n
four_is n small = omega (arith, div-div-eq-div-mul n 256 256, div-div-eq-div-mul n 65536 256, div-div-eq-div-mul n 16777216 256)

-- a page tells the erases left that were put into it
left_of : (bytes : List ℕ) (left : ℕ) → length bytes ≤ 239 → left < 2 ^ 32 → erases_left (page_of bytes left) ≡ left
left_of bytes left short small = grind (arith, places, short, four_is left small)

length_page : (bytes : List ℕ) (left : ℕ) → length bytes ≤ 239 → length (page_of bytes left) ≡ 256
length_page bytes left short = search (rules, places, short)

one_less : (x : ℕ) → ltb 0 (x - 1) ≡ ltb 1 x
one_less x = grind (arith, nat_tests)

-- a write to a page, and the flash around it
module _ (buf bytes : List ℕ) (p : ℕ) (w : PageWrite buf p bytes) where
  abbrev page : List ℕ
  page = written_page (page_at buf p) bytes

  room : p * 256 + 256 ≤ length buf
  room = part_room (length buf) 256 p (omega arith) w.place

  whole : length page ≡ 256
  whole = length_page bytes (erases_left (page_at buf p) - 1) w.short

  front : length (padded 239 bytes) ≡ 239
  front = search (rules, places, w.short)

  remade : page_at (flash_buffer buf p bytes) p ≡ page
  unfolding flash_buffer
  remade = part_here buf page 256 p room whole

  law_cell : take 239 (page_at (flash_buffer buf p bytes) p) ≡ padded 239 bytes
  law_cell = ap (take 239) remade ∙ take_at (padded 239 bytes) _ 239 front

  law_filled : take 13 (drop 239 (page_at (flash_buffer buf p bytes) p)) ≡ replicate 13 255
  law_filled =
      ap (λ page. take 13 (drop 239 page)) remade
      ∙ ap (take 13) (drop_at (padded 239 bytes) _ 239 front)
      ∙ take_at (replicate 13 255) (least_first (erases_left (page_at buf p) - 1)) 13 refl

  law_lowered : erases_left (page_at (flash_buffer buf p bytes) p) ≡ erases_left (page_at buf p) - 1
  law_lowered = ap erases_left remade ∙ left_of bytes (erases_left (page_at buf p) - 1) w.short (omega (arith, w.small))

  law_others : (q : ℕ) → (q ≡ p → ⊥) → page_at (flash_buffer buf p bytes) q ≡ page_at buf q
  unfolding flash_buffer
  law_others q ne = part_there buf page 256 p room whole q ne

  law_length : length (flash_buffer buf p bytes) ≡ length buf
  unfolding flash_buffer
  law_length = length_with buf page 256 p room whole

  wear : (q : ℕ) → ltb 0 (erases_left (page_at (flash_buffer buf p bytes) q)) ≡ takes_after buf p q
  wear q = grind (arith, nat_tests, law_lowered, law_others q)

  pub flash_written : ltb 0 (erases_left (page_at buf p)) ≡ true → WroteBy (flash buf) p bytes (Ok tt) (flash (flash_buffer buf p bytes))
  flash_written takes = record {
    answer = sym (answer_at (flash buf) p bytes w.place w.short ∙ cond-true (ltb 0 (erases_left (page_at buf p))) (Ok tt) (Err (Worn p)) takes);
    becomes = record {
      count = ap (λ n. whole_parts n 256) law_length;
      size = refl;
      here = law_cell;
      others = λ q _ ne. ap (take 239) (law_others q ne);
      wear = λ t told q _. wear q ∙ told_each (takes_after buf p) t told q;
    };
  }

pub flash_laws : FlashLaws
flash_laws = record {
  cell = law_cell;
  filled = law_filled;
  lowered = law_lowered;
  others = λ buf bytes p q w ne. law_others buf bytes p w q ne;
  length = law_length;
}

-- bytes that are put, and then others behind them
pub put_on : (buf xs ys : List ℕ) (at : ℕ) → at + (length xs + length ys) ≤ length buf → put (put buf at xs) (at + length xs) ys ≡ put buf at (xs ++ ys)
put_on buf xs ys at room = same_lists _ _ (search (rules, places)) (λ k d h. grind (arith, places, room))

-- a page that is put in three parts
pub page_parts : (buf bytes tail : List ℕ) (at : ℕ) → at + 256 ≤ length buf → length bytes ≤ 239 → length tail ≡ 17 → put (put (put buf at bytes) (at + length bytes) (take (239 - length bytes) (drop (length bytes) (replicate 239 0)))) (at + 239) tail ≡ put buf at (padded 239 bytes ++ tail)
page_parts buf bytes tail at fits short long =
    let none : length {A = ℕ} (replicate (239 - length bytes) 0) ≡ 239 - length bytes = length-replicate (239 - length bytes) 0 in
    let zeros : take {A = ℕ} (239 - length bytes) (drop (length bytes) (replicate 239 0)) ≡ replicate (239 - length bytes) 0 = take_rest (replicate 239 0) (length bytes) ∙ drop-replicate (length bytes) 239 0 in
    let front : length (padded 239 bytes) ≡ 239 = length-append bytes (replicate (239 - length bytes) 0) ∙ omega (arith, none, short) in
    let cell : put (put buf at bytes) (at + length bytes) (take (239 - length bytes) (drop (length bytes) (replicate 239 0))) ≡ put buf at (padded 239 bytes) = ap (put (put buf at bytes) (at + length bytes)) zeros ∙ put_on buf bytes (replicate (239 - length bytes) 0) at (omega (arith, none, fits, short)) in
    let end : at + length (padded 239 bytes) ≡ at + 239 = ap (λ n. at + n) front in
    ap (λ b. put b (at + 239) tail) cell ∙ (ap (λ n. put (put buf at (padded 239 bytes)) n tail) (sym end) ∙ put_on buf (padded 239 bytes) tail at (omega (arith, front, long, fits)))

-- what is told of an erase that was there to be spent
pub spent : (left p x : ℕ) → Ok x ≡ cond (ltb 0 left) (Ok (left - 1)) (Err (Worn p)) → (ltb 0 left ≡ true) × (x ≡ left - 1)
spent left p x e = grind (arith, nat_tests)

-- a page that is put where it lies, with an erase that was spent on it
module _ (buf bytes : List ℕ) (p left : ℕ) (here : p < whole_parts (length buf) 256) (short : length bytes ≤ 239) (spends : Ok left ≡ cond (ltb 0 (erases_left (page_at buf p))) (Ok (erases_left (page_at buf p) - 1)) (Err (Worn p))) where
  pub page_put : put buf (p * 256) (page_of bytes left) ≡ flash_buffer buf p bytes
  unfolding flash_buffer
  page_put =
      put_part buf (page_of bytes left) 256 p (part_room (length buf) 256 p (omega arith) here) (length_page bytes left short)
      ∙ ap (λ n. with_part 256 buf p (page_of bytes n)) (spent (erases_left (page_at buf p)) p left spends).1

  pub page_wrote : (after : List ℕ) → erases_left (page_at buf p) < 4294967296 → after ≡ flash_buffer buf p bytes → WroteBy (flash buf) p bytes (Ok tt) (flash after)
  page_wrote after small is =
      subst (λ b. WroteBy (flash buf) p bytes (Ok tt) (flash b)) (sym is)
      (flash_written buf bytes p (record { place = here; short = short; small = small }) (spent (erases_left (page_at buf p)) p left spends).0)
