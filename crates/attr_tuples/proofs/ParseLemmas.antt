-- Steps of reading words, over the attributes so far and the text from the present place on.
use Rattle.std.proofs.Common.{◌≡◌, ℕ, zero, suc, ◌+◌, ◌-◌, ◌<◌, ◌≤◌, List, [], ◌∷◌, ◌++◌, Bool, true, false, length, drop, Result, Ok, Err, cond, refl, sym, ap, ◌∙◌, arith, append_assoc}
use Rattle.std.proofs.lemmas.List.{append-nil, drop_all, drop-drop, length-drop, length_push}
use Rattle.attr_tuples.specs.Words.{Cut, first_word, gap_len}
use Rattle.attr_tuples.specs.declared.attr.Attr.{Attr}
use Rattle.attr_tuples.specs.declared.fault.TupleFault.{TupleFault}
use Rattle.attr_tuples.specs.declared.fault.TupleFault.TheVariants.{Name}
use Rattle.attr_tuples.specs.Attributes.{is_name}
use Rattle.attr_tuples.specs.Grammar.{attr_of, put_first, taken, words_at, words_from}
use Rattle.attr_tuples.specs.Steps.{put_all}

pub put_none : (r : Result (List Attr) TupleFault) → put_all [] r ≡ r
put_none (Ok attrs) = refl
put_none (Err fault) = refl

pub put_then : (done : List Attr) (a : Attr) (r : Result (List Attr) TupleFault) → put_all done (put_first a r) ≡ put_all (done ++ a ∷ []) r
put_then done a (Ok attrs) = ap Ok (sym (append_assoc done (a ∷ []) attrs))
put_then done a (Err fault) = refl

-- where a word begins and one more may follow
pub words_more : (n at : ℕ) (text : List ℕ) → 1 ≤ n → 1 ≤ length text → words_at n at text ≡ taken at (first_word at text) (λ cut. words_at (n - 1) (cut.end + gap_len cut.behind) (drop (gap_len cut.behind) cut.behind))
words_more zero at text some long = absurd (omega arith)
words_more (suc n) at [] some long = absurd (omega arith)
words_more (suc n) at (b ∷ rest) some long =
    let e : n ≡ suc n - 1 = omega arith in
    ap (λ (m : ℕ). taken at (first_word at (b ∷ rest)) (λ cut. words_at m (cut.end + gap_len cut.behind) (drop (gap_len cut.behind) cut.behind))) e

pub words_over : (n at : ℕ) → words_at n at [] ≡ Ok []
words_over zero at = refl
words_over (suc n) at = refl

-- what is read of a text, where so many attributes are done and the next word begins at a place
abbrev pub GoesOn : List ℕ → List Attr → ℕ → Type 0
GoesOn text done at = words_from 36 0 text ≡ put_all done (words_at (36 - length done) at (drop at text))

pub begin : (text : List ℕ) (at : ℕ) → at ≡ 0 + gap_len (drop 0 text) → GoesOn text [] at
unfolding words_from
begin text at e =
    let is : at ≡ 0 + gap_len text = e in
    let cut : drop at text ≡ drop (gap_len text) text = ap (λ (n : ℕ). drop n text) (omega (arith, is)) in
    sym (put_none (words_at 36 (0 + gap_len text) (drop (gap_len text) text))) ∙ ap (λ (rest : List ℕ). put_all [] (words_at 36 (0 + gap_len text) rest)) (sym cut)
    ∙ ap (λ (n : ℕ). put_all [] (words_at 36 n (drop at text))) (sym is)

rest_long : (text : List ℕ) (at : ℕ) → at < length text → 1 ≤ length (drop at text)
rest_long text at lt = omega (arith, length-drop at text)

-- where another word is taken
word_on : (text : List ℕ) (done : List Attr) (at : ℕ) → GoesOn text done at → at < length text → length done < 36 →
    words_from 36 0 text ≡ put_all done (taken at (first_word at (drop at text)) (λ cut. words_at (36 - length done - 1) (cut.end + gap_len cut.behind) (drop (gap_len cut.behind) cut.behind)))
word_on text done at so_far lt few = so_far ∙ ap (put_all done) (words_more (36 - length done) at (drop at text) (omega arith) (rest_long text at lt))

pub bad_name : (text word : List ℕ) (done : List Attr) (at end : ℕ) → GoesOn text done at → at < length text → length done < 36 →
    first_word at (drop at text) ≡ Ok (record { bytes = word; end = end; behind = drop end text }) → is_name (attr_of word).name ≡ false → words_from 36 0 text ≡ Err (Name at)
bad_name text word done at end so_far lt few e bad =
    let others : Cut → Result (List Attr) TupleFault = λ cut. words_at (36 - length done - 1) (cut.end + gap_len cut.behind) (drop (gap_len cut.behind) cut.behind) in
    let cut : Cut = record { bytes = word; end = end; behind = drop end text } in
    word_on text done at so_far lt few ∙ ap (λ (r : Result Cut ℕ). put_all done (taken at r others)) e
    ∙ ap (λ (b : Bool). put_all done (cond b (put_first (attr_of word) (others cut)) (Err (Name at)))) bad

pub one_more : (text word : List ℕ) (done more : List Attr) (a : Attr) (at end next : ℕ) → GoesOn text done at → at < length text → length done < 36 →
    first_word at (drop at text) ≡ Ok (record { bytes = word; end = end; behind = drop end text }) → a ≡ attr_of word → is_name (attr_of word).name ≡ true →
    more ≡ done ++ a ∷ [] → next ≡ end + gap_len (drop end text) → GoesOn text more next
one_more text word done more a at end next so_far lt few e is good more_is next_is =
    let others : Cut → Result (List Attr) TupleFault = λ cut. words_at (36 - length done - 1) (cut.end + gap_len cut.behind) (drop (gap_len cut.behind) cut.behind) in
    let cut : Cut = record { bytes = word; end = end; behind = drop end text } in
    let gap = gap_len (drop end text) in
    let count : 36 - length done - 1 ≡ 36 - length more = omega (arith, ap (length {A = Attr}) more_is, length_push done a) in
    let rest : drop gap (drop end text) ≡ drop next text = drop-drop gap end text ∙ ap (λ (n : ℕ). drop n text) (omega (arith, next_is)) in
    word_on text done at so_far lt few ∙ ap (λ (r : Result Cut ℕ). put_all done (taken at r others)) e
    ∙ ap (λ (b : Bool). put_all done (cond b (put_first (attr_of word) (others cut)) (Err (Name at)))) good
    ∙ put_then done (attr_of word) (others cut)
    ∙ ap (λ (x : Attr). put_all (done ++ x ∷ []) (others cut)) (sym is)
    ∙ ap (λ (xs : List Attr). put_all xs (others cut)) (sym more_is)
    ∙ ap (λ (n : ℕ). put_all more (words_at n (end + gap) (drop gap (drop end text)))) count
    ∙ ap (λ (n : ℕ). put_all more (words_at (36 - length more) n (drop gap (drop end text)))) (sym next_is)
    ∙ ap (λ (xs : List ℕ). put_all more (words_at (36 - length more) next xs)) rest

pub all_read : (text : List ℕ) (done : List Attr) (at : ℕ) → GoesOn text done at → length text ≤ at → words_from 36 0 text ≡ Ok done
all_read text done at so_far le =
    so_far ∙ ap (λ (rest : List ℕ). put_all done (words_at (36 - length done) at rest)) (drop_all at text le)
    ∙ ap (put_all done) (words_over (36 - length done) at) ∙ ap Ok (append-nil done)
