-- The steps of the loops that seal and open.
use Rattle.std.proofs.Common.{◌≡◌, ◌≢◌, ℕ, ◌+◌, ◌-◌, ◌*◌, ◌/◌, ◌%◌, Bool, true, false, List, [], ◌∷◌, ◌++◌, length, take, drop, map, reverse, sym, ap, ◌∙◌, arith, ne_eqb, eq-eqb}
use Rattle.std.specs.Prelude.{if◌then◌else◌}
use Rattle.std.specs.List.{fold, range_with_len}
use Rattle.std.proofs.lemmas.Grind.{fold-append}
use Rattle.std.proofs.lemmas.List.{append-nil, take_all, reverse-append}
use Rattle.std.proofs.lemmas.List.FromFn.{map-range_with_len_more}
use Rattle.std.proofs.lemmas.Slice.{put_mid-paste}
use borrow.Rule.Slice.PartMut.{put_mid}
use Rattle.des_block.specs.Bits.{bits_of}
use Rattle.des_block.specs.Schedule.{deciphered, deciphered_with, enciphered, enciphered_with, key_schedule}
use Rattle.des_block.proofs.ByteLaws.{length-bytes_of}
use Rattle.sealing.specs.Keys.{expanded}
use Rattle.sealing.specs.Sealing.{block_starts, changed_at, opened, sealed}

pub length-enciphered_with : (keys : List (List Bool)) (block : List ℕ) → length (enciphered_with keys block) ≡ 8
unfolding enciphered_with
length-enciphered_with keys block = length-bytes_of 8 _

pub length-deciphered_with : (keys : List (List Bool)) (block : List ℕ) → length (deciphered_with keys block) ≡ 8
unfolding deciphered_with
length-deciphered_with keys block = length-bytes_of 8 _

-- what a write of eight bytes at a place leaves
pub block_put : (text written block : List ℕ) (at : ℕ) → written ≡ block → length block ≡ 8 → put_mid at (at + 8 - at) text written ≡ take at text ++ block ++ drop (at + 8) text
block_put text written block at same long =
    put_mid-paste at (at + 8 - at) text written block 8 same (omega arith) (sym long)
    ∙ ap (λ (bytes : List ℕ). take at text ++ bytes ++ drop (at + 8) text) (take_all 8 block (omega arith))

-- the first places of blocks
abbrev pub whole_starts : ℕ → List ℕ
whole_starts count = map (λ i. 7 * i) (range_with_len 0 count)

-- one more block is changed
pub change_more : (change : List ℕ → List ℕ) (start text next : List ℕ) (i : ℕ) → text ≡ fold (changed_at change) start (whole_starts i) → next ≡ changed_at change text (7 * i) → next ≡ fold (changed_at change) start (whole_starts (i + 1))
change_more change start text next i so_far step =
    step ∙ ap (λ (bytes : List ℕ). changed_at change bytes (7 * i)) so_far
    ∙ sym (fold-append (changed_at change) start (whole_starts i) (7 * i ∷ []))
    ∙ sym (ap (λ (places : List ℕ). fold (changed_at change) start places) (map-range_with_len_more (λ i. 7 * i) 0 i i (omega arith)))

-- one block less is left to be changed
pub change_less : (change : List ℕ → List ℕ) (text : List ℕ) (i j : ℕ) → i ≡ j + 1 → fold (changed_at change) text (reverse (whole_starts i)) ≡ fold (changed_at change) (changed_at change text (7 * j)) (reverse (whole_starts j))
change_less change text i j is =
    ap (λ (count : ℕ). fold (changed_at change) text (reverse (whole_starts count))) is
    ∙ ap (λ (places : List ℕ). fold (changed_at change) text (reverse places)) (map-range_with_len_more (λ i. 7 * i) 0 j j (omega arith))
    ∙ ap (λ (places : List ℕ). fold (changed_at change) text places) (reverse-append (whole_starts j) (7 * j ∷ []))

tail_is : (n : ℕ) (b : Bool) → b ≡ false → (if b then [] else (n - 8) ∷ []) ≡ (n - 8) ∷ []
tail_is n b e = ap (λ (c : Bool). if c then [] else (n - 8) ∷ []) e

no_tail : (n : ℕ) (b : Bool) → b ≡ true → (if b then [] else (n - 8) ∷ []) ≡ []
no_tail n b e = ap (λ (c : Bool). if c then [] else (n - 8) ∷ []) e

-- the places of a text's blocks, with a last block behind the whole ones and without
starts_with_tail : (n : ℕ) → (n - 1) % 7 ≢ 0 → block_starts n ≡ whole_starts ((n - 1) / 7) ++ (n - 8) ∷ []
unfolding block_starts
starts_with_tail n h = ap (λ (tail : List ℕ). whole_starts ((n - 1) / 7) ++ tail) (tail_is n _ (ne_eqb _ _ h))

starts_without_tail : (n : ℕ) → (n - 1) % 7 ≡ 0 → block_starts n ≡ whole_starts ((n - 1) / 7)
unfolding block_starts
starts_without_tail n h = ap (λ (tail : List ℕ). whole_starts ((n - 1) / 7) ++ tail) (no_tail n _ (eq-eqb _ _ h)) ∙ append-nil _

-- the schedule is that of the expanded key
abbrev pub IsScheduleOf : List ℕ → List (List Bool) → Type 0
IsScheduleOf key schedule = schedule ≡ key_schedule (bits_of (expanded key))

pub sealed_with_tail : (key text middle end : List ℕ) (schedule : List (List Bool)) (count last : ℕ) → IsScheduleOf key schedule → count ≡ (length text - 1) / 7 → last ≡ length text - 8 → (length text - 1) % 7 ≢ 0 → middle ≡ fold (changed_at (enciphered_with schedule)) text (whole_starts count) → end ≡ changed_at (enciphered_with schedule) middle last → end ≡ sealed key text
unfolding sealed enciphered
sealed_with_tail key text middle end schedule count last made all at tail whole step =
    step ∙ ap (λ (bytes : List ℕ). changed_at (enciphered_with schedule) bytes last) whole
    ∙ sym (fold-append (changed_at (enciphered_with schedule)) text (whole_starts count) (last ∷ []))
    ∙ ap (λ (k : ℕ). fold (changed_at (enciphered_with schedule)) text (whole_starts k ++ last ∷ [])) all
    ∙ ap (λ (k : ℕ). fold (changed_at (enciphered_with schedule)) text (whole_starts ((length text - 1) / 7) ++ k ∷ [])) at
    ∙ ap (λ (places : List ℕ). fold (changed_at (enciphered_with schedule)) text places) (sym (starts_with_tail (length text) tail))
    ∙ ap (λ (keys : List (List Bool)). fold (changed_at (enciphered_with keys)) text (block_starts (length text))) made

pub sealed_without_tail : (key text end : List ℕ) (schedule : List (List Bool)) (count : ℕ) → IsScheduleOf key schedule → count ≡ (length text - 1) / 7 → (length text - 1) % 7 ≡ 0 → end ≡ fold (changed_at (enciphered_with schedule)) text (whole_starts count) → end ≡ sealed key text
unfolding sealed enciphered
sealed_without_tail key text end schedule count made all tail whole =
    whole
    ∙ ap (λ (k : ℕ). fold (changed_at (enciphered_with schedule)) text (whole_starts k)) all
    ∙ ap (λ (places : List ℕ). fold (changed_at (enciphered_with schedule)) text places) (sym (starts_without_tail (length text) tail))
    ∙ ap (λ (keys : List (List Bool)). fold (changed_at (enciphered_with keys)) text (block_starts (length text))) made

-- opening begins with the last block
pub opened_with_tail : (key text first : List ℕ) (schedule : List (List Bool)) (last : ℕ) → IsScheduleOf key schedule → last ≡ length text - 8 → (length text - 1) % 7 ≢ 0 → first ≡ changed_at (deciphered_with schedule) text last → fold (changed_at (deciphered_with schedule)) first (reverse (whole_starts ((length text - 1) / 7))) ≡ opened key text
unfolding opened deciphered
opened_with_tail key text first schedule last made at tail step =
    let whole = whole_starts ((length text - 1) / 7) in
    ap (λ (bytes : List ℕ). fold (changed_at (deciphered_with schedule)) bytes (reverse whole)) step
    ∙ ap (λ (k : ℕ). fold (changed_at (deciphered_with schedule)) text (k ∷ reverse whole)) at
    ∙ ap (λ (places : List ℕ). fold (changed_at (deciphered_with schedule)) text places) (sym (reverse-append whole ((length text - 8) ∷ [])))
    ∙ ap (λ (places : List ℕ). fold (changed_at (deciphered_with schedule)) text (reverse places)) (sym (starts_with_tail (length text) tail))
    ∙ ap (λ (keys : List (List Bool)). fold (changed_at (deciphered_with keys)) text (reverse (block_starts (length text)))) made

pub opened_without_tail : (key text first : List ℕ) (schedule : List (List Bool)) → IsScheduleOf key schedule → (length text - 1) % 7 ≡ 0 → first ≡ text → fold (changed_at (deciphered_with schedule)) first (reverse (whole_starts ((length text - 1) / 7))) ≡ opened key text
unfolding opened deciphered
opened_without_tail key text first schedule made tail same =
    ap (λ (bytes : List ℕ). fold (changed_at (deciphered_with schedule)) bytes (reverse (whole_starts ((length text - 1) / 7)))) same
    ∙ ap (λ (places : List ℕ). fold (changed_at (deciphered_with schedule)) text (reverse places)) (sym (starts_without_tail (length text) tail))
    ∙ ap (λ (keys : List (List Bool)). fold (changed_at (deciphered_with keys)) text (reverse (block_starts (length text)))) made
