-- The words of a text of offers are read as the domains that were offered.
use Rattle.std.proofs.Common.{◌≡◌, ℕ, suc, ◌==◌, List, [], ◌∷◌, Bool, true, false, not, ◌&&◌, length, drop, map, slice_index_or, codes, refl, ap, ◌∙◌, arith}
use Rattle.std.specs.Prelude.{All, nat_le}
use Rattle.std.specs.List.{filter, join_with_byte, list_all}
use Rattle.std.proofs.lemmas.Bool.{and_parts, leb-true, ne_eqb}
use Rattle.std.proofs.lemmas.List.Elements.{All-append, All-cons, All-nil}
use Rattle.std.proofs.lemmas.List.Splits.{slice_split_at, slice_split_none}
use Rattle.std.proofs.lemmas.List.Sums.{AllPass-from_list_all}
use Rattle.attr_tuples.specs.Forms.{is_dom, is_dom_byte}
use Rattle.key_lists.specs.Finding.{offered_doms, words_of}
use Rattle.key_lists.specs.Listing.{offer_of, offers_text}

abbrev is_blank : ℕ → Bool
is_blank b = b == 32

abbrev is_word : List ℕ → Bool
is_word word = not (length word == 0)

-- a word: some bytes, and no blank among them
record IsWord (word : List ℕ) : Type 0 where
  long : is_word word ≡ true
  clean : All (λ b. is_blank b ≡ false) word

words_again : (words : List (List ℕ)) → All IsWord words → words_of (join_with_byte 32 words) ≡ words
words_again [] each = refl
words_again (word ∷ []) each =
    let first = each 0 word (omega arith) in
    ap (filter is_word) (slice_split_none is_blank word first.clean) ∙ simp first.long refl
words_again (word ∷ next ∷ words) each =
    let first = each 0 word (omega arith) in
    let rest = join_with_byte 32 (next ∷ words) in
    ap (filter is_word) (slice_split_at is_blank word 32 rest first.clean refl)
    ∙ simp first.long (ap (λ (ws : List (List ℕ)). word ∷ ws) (words_again (next ∷ words) (λ k d lt. each (suc k) d (omega (arith, lt)))))

dom_clean : (dom : List ℕ) → is_dom dom ≡ true → All (λ b. is_blank b ≡ false) dom
dom_clean dom is =
    let short = and_parts (nat_le 1 (length dom)) (nat_le (length dom) 47 && list_all is_dom_byte dom) is in
    let bytes = and_parts (nat_le (length dom) 47) (list_all is_dom_byte dom) short.1 in
    let each = AllPass-from_list_all is_dom_byte dom bytes.1 in
    λ k d lt.
    let byte = slice_index_or dom k d in
    let above = leb-true 33 byte (and_parts (nat_le 33 byte) (not (byte == 64)) (each k d lt)).0 in
    ne_eqb byte 32 (λ same. omega (arith, above, same))

abbrev IsClean : ℕ → Type 0
IsClean b = is_blank b ≡ false

mark_clean : All IsClean (codes "p9sk1@")
mark_clean =
    All-cons IsClean 112 (codes "9sk1@") refl (All-cons IsClean 57 (codes "sk1@") refl (All-cons IsClean 115 (codes "k1@") refl
    (All-cons IsClean 107 (codes "1@") refl (All-cons IsClean 49 (codes "@") refl (All-cons IsClean 64 [] refl (All-nil IsClean))))))

offer_word : (dom : List ℕ) → is_dom dom ≡ true → IsWord (offer_of dom)
offer_word dom is = record {
  long = ap not (ne_eqb (length (offer_of dom)) 0 (λ none. omega (arith, none)));
  clean = All-append IsClean (codes "p9sk1@") dom mark_clean (dom_clean dom is);
}

offers_are_words : (doms : List (List ℕ)) → All (λ dom. is_dom dom ≡ true) doms → All IsWord (map offer_of doms)
offers_are_words [] each = All-nil IsWord
offers_are_words (dom ∷ doms) each =
    All-cons IsWord (offer_of dom) (map offer_of doms) (offer_word dom (each 0 dom (omega arith))) (offers_are_words doms (λ k d lt. each (suc k) d (omega (arith, lt))))

unmarked : (doms : List (List ℕ)) → map (λ word. drop 6 word) (map offer_of doms) ≡ doms
unmarked [] = refl
unmarked (dom ∷ doms) = ap (λ (ds : List (List ℕ)). dom ∷ ds) (unmarked doms)

pub doms_again : (doms : List (List ℕ)) → All (λ dom. is_dom dom ≡ true) doms → offered_doms (offers_text (map offer_of doms)) ≡ doms
unfolding offers_text
doms_again doms each =
    ap (map (λ (word : List ℕ). drop 6 word)) (words_again (map offer_of doms) (offers_are_words doms each)) ∙ unmarked doms
