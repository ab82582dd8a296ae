-- Opening undoes sealing and the other way round; both keep the length, and give bytes.
use Rattle.std.proofs.Common.{◌≡◌, ℕ, zero, suc, ◌+◌, ◌-◌, ◌*◌, ◌/◌, ◌<◌, ◌≤◌, Bool, true, false, List, [], ◌∷◌, ◌++◌, length, take, drop, map, reverse, refl, sym, ap, ◌∙◌, subst, arith}
use Rattle.std.specs.List.{fold, range_with_len}
use Rattle.std.specs.Prelude.{if◌then◌else◌}
use Rattle.std.proofs.lemmas.Grind.{fold-append}
use Rattle.std.proofs.lemmas.List.{append_assoc, take-append-drop, length-take-le, length-drop, length-append, take_at, drop_at, drop-drop, reverse-append, reverse-reverse}
use Rattle.std.proofs.lemmas.List.Elements.{All-append, All-take, All-drop}
use Rattle.des_block.specs.Bits.{IsBlock, IsBytes}
use Rattle.des_block.specs.Schedule.{deciphered, enciphered}
use Rattle.des_block.proofs.CipherLaws.{enciphered_undone, deciphered_undone, length-enciphered, length-deciphered, IsBytes-enciphered, IsBytes-deciphered}
use Rattle.sealing.specs.Keys.{expanded}
use Rattle.sealing.specs.Sealing.{block_starts, changed_at, opened, sealed}

-- what a change of blocks gives are blocks
record GivesBlocks (change : List ℕ → List ℕ) : Type 0 where
  whole : (block : List ℕ) → length (change block) ≡ 8
  bytes : (block : List ℕ) → IsBytes (change block)

-- one change of blocks undoes another
record Undoes (undo change : List ℕ → List ℕ) : Type 0 where
  undone : (block : List ℕ) → IsBlock block → undo (change block) ≡ block

-- the places are such that eight bytes stand there in a text of n bytes
abbrev Within : ℕ → List ℕ → Type 0
Within n [] = Unit {0}
Within n (at ∷ starts) = (at + 8 ≤ n) × Within n starts

length-changed_at : (change : List ℕ → List ℕ) (text : List ℕ) (at : ℕ) → GivesBlocks change → at + 8 ≤ length text → length (changed_at change text at) ≡ length text
unfolding changed_at
length-changed_at change text at gives room =
    length-append (take at text ++ change (take 8 (drop at text))) (drop (at + 8) text)
    ∙ omega (arith, length-append (take at text) (change (take 8 (drop at text))), gives.whole (take 8 (drop at text)), length-take-le at text (omega arith), length-drop (at + 8) text)

IsBytes-changed_at : (change : List ℕ → List ℕ) (text : List ℕ) (at : ℕ) → GivesBlocks change → IsBytes text → IsBytes (changed_at change text at)
unfolding changed_at
IsBytes-changed_at change text at gives small =
    All-append (λ n. n < 256) _ _
    (All-append (λ n. n < 256) _ _ (All-take (λ n. n < 256) at text small) (gives.bytes _))
    (All-drop (λ n. n < 256) (at + 8) text small)

-- the block at a place
block_at : (text : List ℕ) (at : ℕ) → IsBytes text → at + 8 ≤ length text → IsBlock (take 8 (drop at text))
block_at text at small room = record {
  whole = length-take-le 8 (drop at text) (omega (arith, length-drop at text));
  bytes = All-take (λ n. n < 256) 8 (drop at text) (All-drop (λ n. n < 256) at text small);
}

-- a text is what stands before a block, the block, and what stands behind it
around_block : (text : List ℕ) (at : ℕ) → take at text ++ take 8 (drop at text) ++ drop (at + 8) text ≡ text
around_block text at =
    append_assoc (take at text) (take 8 (drop at text)) (drop (at + 8) text)
    ∙ ap (λ (rest : List ℕ). take at text ++ (take 8 (drop at text) ++ rest)) (sym (drop-drop 8 at text))
    ∙ ap (λ (rest : List ℕ). take at text ++ rest) (take-append-drop 8 (drop at text))
    ∙ take-append-drop at text

changed_undone : (undo change : List ℕ → List ℕ) (text : List ℕ) (at : ℕ) → Undoes undo change → GivesBlocks change → IsBytes text → at + 8 ≤ length text → changed_at undo (changed_at change text at) at ≡ text
unfolding changed_at
changed_undone undo change text at undoes gives small room =
    let front = take at text in
    let block = take 8 (drop at text) in
    let back = drop (at + 8) text in
    let made = front ++ change block ++ back in
    let front_long : length front ≡ at = length-take-le at text (omega arith) in
    let both_long : length (front ++ change block) ≡ at + 8 = length-append front (change block) ∙ omega (arith, gives.whole block) in
    let same_front : take at made ≡ front = ap (λ (xs : List ℕ). take at xs) (append_assoc front (change block) back) ∙ take_at front (change block ++ back) at front_long in
    let from_block : drop at made ≡ change block ++ back = ap (λ (xs : List ℕ). drop at xs) (append_assoc front (change block) back) ∙ drop_at front (change block ++ back) at front_long in
    let same_block : take 8 (drop at made) ≡ change block = ap (λ (xs : List ℕ). take 8 xs) from_block ∙ take_at (change block) back 8 (gives.whole block) in
    let same_back : drop (at + 8) made ≡ back = drop_at (front ++ change block) back (at + 8) both_long in
    ap (λ (xs : List ℕ). xs ++ undo (take 8 (drop at made)) ++ drop (at + 8) made) same_front
    ∙ ap (λ (xs : List ℕ). front ++ undo xs ++ drop (at + 8) made) same_block
    ∙ ap (λ (xs : List ℕ). front ++ undo (change block) ++ xs) same_back
    ∙ ap (λ (xs : List ℕ). front ++ xs ++ back) (undoes.undone block (block_at text at small room))
    ∙ around_block text at

length-changed : (change : List ℕ → List ℕ) (n : ℕ) (starts text : List ℕ) → GivesBlocks change → Within n starts → length text ≡ n → length (fold (changed_at change) text starts) ≡ n
length-changed change n [] text gives within long = long
length-changed change n (at ∷ starts) text gives within long =
    length-changed change n starts (changed_at change text at) gives within.1 (length-changed_at change text at gives (omega (arith, within.0)) ∙ long)

IsBytes-changed : (change : List ℕ → List ℕ) (starts text : List ℕ) → GivesBlocks change → IsBytes text → IsBytes (fold (changed_at change) text starts)
IsBytes-changed change [] text gives small = small
IsBytes-changed change (at ∷ starts) text gives small = IsBytes-changed change starts (changed_at change text at) gives (IsBytes-changed_at change text at gives small)

-- changes at some places are undone at these places in reverse order
changes_undone : (undo change : List ℕ → List ℕ) (n : ℕ) (starts text : List ℕ) → Undoes undo change → GivesBlocks change → Within n starts → IsBytes text → length text ≡ n → fold (changed_at undo) (fold (changed_at change) text starts) (reverse starts) ≡ text
changes_undone undo change n [] text undoes gives within small long = refl
changes_undone undo change n (at ∷ starts) text undoes gives within small long =
    let next = changed_at change text at in
    let all = fold (changed_at change) next starts in
    let next_long : length next ≡ n = length-changed_at change text at gives (omega (arith, within.0)) ∙ long in
    ap (λ (places : List ℕ). fold (changed_at undo) all places) (reverse-append (at ∷ []) starts)
    ∙ fold-append (changed_at undo) all (reverse starts) (at ∷ [])
    ∙ ap (λ (bytes : List ℕ). changed_at undo bytes at) (changes_undone undo change n starts next undoes gives within.1 (IsBytes-changed_at change text at gives small) next_long)
    ∙ changed_undone undo change text at undoes gives small (omega (arith, within.0))

Within-append : (n : ℕ) (starts more : List ℕ) → Within n starts → Within n more → Within n (starts ++ more)
Within-append n [] more h k = k
Within-append n (at ∷ starts) more h k = (h.0, Within-append n starts more h.1 k)

Within-reverse : (n : ℕ) (starts : List ℕ) → Within n starts → Within n (reverse starts)
Within-reverse n [] h = tt
Within-reverse n (at ∷ starts) h =
    let P : List ℕ → Type 0 = λ places. Within n places in
    subst P (sym (reverse-append (at ∷ []) starts)) (Within-append n (reverse starts) (at ∷ []) (Within-reverse n starts h.1) (h.0, tt))

Within-whole : (n first count : ℕ) → 7 * (first + count) + 1 ≤ n → Within n (map (λ i. 7 * i) (range_with_len first count))
Within-whole n first zero l = tt
Within-whole n first (suc count) l = (omega arith, Within-whole n (first + 1) count (omega arith))

Within-tail : (n : ℕ) (b : Bool) → 8 ≤ n → Within n (if b then [] else (n - 8) ∷ [])
Within-tail n true l = tt
Within-tail n false l = (omega arith, tt)

-- the blocks lie within the text
Within-block_starts : (n : ℕ) → 8 ≤ n → Within n (block_starts n)
unfolding block_starts
Within-block_starts n l = Within-append n _ _ (Within-whole n 0 ((n - 1) / 7) (omega arith)) (Within-tail n _ l)

enciphered_gives : (key : List ℕ) → GivesBlocks (enciphered key)
enciphered_gives key = record { whole = length-enciphered key; bytes = IsBytes-enciphered key }

deciphered_gives : (key : List ℕ) → GivesBlocks (deciphered key)
deciphered_gives key = record { whole = length-deciphered key; bytes = IsBytes-deciphered key }

-- sealing and opening keep the length
pub length-sealed : (key text : List ℕ) → 8 ≤ length text → length (sealed key text) ≡ length text
unfolding sealed
length-sealed key text l = length-changed (enciphered (expanded key)) (length text) (block_starts (length text)) text (enciphered_gives _) (Within-block_starts _ l) refl

pub length-opened : (key text : List ℕ) → 8 ≤ length text → length (opened key text) ≡ length text
unfolding opened
length-opened key text l = length-changed (deciphered (expanded key)) (length text) (reverse (block_starts (length text))) text (deciphered_gives _) (Within-reverse _ _ (Within-block_starts _ l)) refl

-- and give bytes
pub IsBytes-sealed : (key text : List ℕ) → IsBytes text → IsBytes (sealed key text)
unfolding sealed
IsBytes-sealed key text small = IsBytes-changed (enciphered (expanded key)) (block_starts (length text)) text (enciphered_gives _) small

pub IsBytes-opened : (key text : List ℕ) → IsBytes text → IsBytes (opened key text)
unfolding opened
IsBytes-opened key text small = IsBytes-changed (deciphered (expanded key)) (reverse (block_starts (length text))) text (deciphered_gives _) small

-- opening undoes sealing
pub sealed_undone : (key text : List ℕ) → 8 ≤ length text → IsBytes text → opened key (sealed key text) ≡ text
unfolding opened sealed
sealed_undone key text l small =
    ap (λ (n : ℕ). fold (changed_at (deciphered (expanded key))) (sealed key text) (reverse (block_starts n))) (length-sealed key text l)
    ∙ changes_undone (deciphered (expanded key)) (enciphered (expanded key)) (length text) (block_starts (length text)) text
    (record { undone = enciphered_undone (expanded key) }) (enciphered_gives _) (Within-block_starts _ l) small refl

-- sealing undoes opening
pub opened_undone : (key text : List ℕ) → 8 ≤ length text → IsBytes text → sealed key (opened key text) ≡ text
unfolding opened sealed
opened_undone key text l small =
    let starts = block_starts (length text) in
    ap (λ (n : ℕ). fold (changed_at (enciphered (expanded key))) (opened key text) (block_starts n)) (length-opened key text l)
    ∙ ap (λ (places : List ℕ). fold (changed_at (enciphered (expanded key))) (opened key text) places) (sym (reverse-reverse starts))
    ∙ changes_undone (enciphered (expanded key)) (deciphered (expanded key)) (length text) (reverse starts) text
    (record { undone = deciphered_undone (expanded key) }) (deciphered_gives _) (Within-reverse _ _ (Within-block_starts _ l)) small refl
