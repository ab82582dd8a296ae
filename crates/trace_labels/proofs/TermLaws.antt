-- Terms are read as they are written, and nothing else is read as them.
use Rattle.std.proofs.Common.{◌≡◌, ℕ, zero, suc, ◌+◌, ◌-◌, ◌<◌, ◌≤◌, List, [], ◌∷◌, ◌++◌, max, codes, map, Option, Some, None, option_map, refl, sym, ap, ap₂, ◌∙◌, append_assoc, append-nil, arith, subst, bytes_eq}
use Rattle.std.specs.Fmt.{decimal}
use Rattle.std.proofs.lemmas.Slice.Eq.{bytes_eq-Decides}
use Rattle.symbolic_runs.specs.declared.kind.MacKind.{MacKind}
use Rattle.symbolic_runs.specs.Trees.{Tree, plain, nonce, challenge, long_key, ticket_key, junk_key, password, joined, seal, digest, Trees, none, piece}
use Rattle.symbolic_runs.specs.declared.term.Term.{Term}
use Rattle.symbolic_runs.specs.Views.{tree, trees_of}
use Rattle.std.proofs.lemmas.List.{map-append}
use Rattle.trace_labels.specs.declared.terms.TermVerb.{TermVerb}
use Rattle.trace_labels.specs.declared.terms.TermVerb.TheVariants as v
use Rattle.trace_labels.specs.Words.{Word, IsSmall, IsNumber, IsHex, IsKeyName}
use Rattle.trace_labels.specs.Terms.{IsTerm, AreTerms, count, depth, depth_all, kind_word}
use Rattle.trace_labels.specs.Reading.{◌>>=◌, Read, one_by, atom_by, number_of, hex_of, name_of, kind_of, term_verb_of, term_verbs, term_word, term_in, terms_in, cat_in, seal_in, mac_in, term_behind}
use Rattle.trace_labels.proofs.Parts.{beside, bind_parts, one_parts, find_parts, some_pair}
use Rattle.trace_labels.proofs.Numbers.{number_again, number_parts}
use Rattle.trace_labels.proofs.Said.{hex_parts, hex_again, name_parts, name_again, kind_parts, kind_again}

-- ---- for the loop over the terms that are joined

abbrev pub in_front : List Tree → List Tree × List Word → List Tree × List Word
in_front done read = (done ++ read.0, read.1)

in_front_more : (done : List Tree) (t : Tree) (o : Option (List Tree × List Word)) → option_map (in_front done) (o >>= λ others. Some (beside (t ∷ others.0) others.1)) ≡ option_map (in_front (done ++ t ∷ [])) o
in_front_more done t None = refl
in_front_more done t (Some read) = ap (λ ts. Some (beside ts read.1)) (sym (append_assoc done (t ∷ []) read.0))

pub one_more : (inner : Read Tree) (n : ℕ) (done : List Tree) (words next : List Word) (t : Tree) → inner words ≡ Some (t, next) → option_map (in_front done) (terms_in inner (suc n) words) ≡ option_map (in_front (done ++ t ∷ [])) (terms_in inner n next)
one_more inner n done words next t h = rw h (in_front_more done t (terms_in inner n next))

pub none_more : (inner : Read Tree) (n : ℕ) (done : List Tree) (words : List Word) → inner words ≡ None → option_map (in_front done) (terms_in inner (suc n) words) ≡ None
none_more inner n done words h = rw h refl

-- so far these pieces were read
abbrev pub Going : Read Tree → ℕ → ℕ → List Word → List Word → List Term → Type 0
Going inner many counter all words pieces = terms_in inner many all ≡ option_map (in_front (map tree pieces)) (terms_in inner (many - counter) words)

none_in_front : (o : Option (List Tree × List Word)) → o ≡ option_map (in_front []) o
none_in_front None = refl
none_in_front (Some read) = refl

pub pieces_begin : (inner : Read Tree) (many : ℕ) (all : List Word) (pieces : List Term) → pieces ≡ [] → Going inner many 0 all all pieces
pieces_begin inner many all pieces e =
    let all_left : many - 0 ≡ many = omega arith in
    rw (e, all_left) (none_in_front (terms_in inner many all))

pub piece_more : (inner : Read Tree) (many counter : ℕ) (all words next : List Word) (pieces more : List Term) (new : Term) → Going inner many counter all words pieces → counter < many → inner words ≡ Some (tree new, next) → more ≡ pieces ++ new ∷ [] → Going inner many (counter + 1) all next more
piece_more inner many counter all words next pieces more new going less read put =
    let e : many - counter ≡ suc (many - (counter + 1)) = omega (arith, less) in
    let step : option_map (in_front (map tree pieces)) (terms_in inner (many - counter) words) ≡ option_map (in_front (map tree pieces ++ tree new ∷ [])) (terms_in inner (many - (counter + 1)) next) =
    rw e (one_more inner (many - (counter + 1)) (map tree pieces) words next (tree new) read) in
    let whole : map tree more ≡ map tree pieces ++ tree new ∷ [] = ap (map tree) put ∙ map-append tree pieces (new ∷ []) in
    subst (λ ts. terms_in inner many all ≡ option_map (in_front ts) (terms_in inner (many - (counter + 1)) next)) (sym whole) (going ∙ step)

pub piece_none : (inner : Read Tree) (many counter : ℕ) (all words : List Word) (pieces : List Term) → Going inner many counter all words pieces → counter < many → inner words ≡ None → terms_in inner many all ≡ None
piece_none inner many counter all words pieces going less missing =
    let e : many - counter ≡ suc (many - (counter + 1)) = omega (arith, less) in
    let step : option_map (in_front (map tree pieces)) (terms_in inner (many - counter) words) ≡ None =
    rw e (none_more inner (many - (counter + 1)) (map tree pieces) words missing) in
    going ∙ step

pub pieces_end : (inner : Read Tree) (many counter : ℕ) (all words : List Word) (pieces : List Term) → Going inner many counter all words pieces → many ≤ counter → terms_in inner many all ≡ Some (map tree pieces, words)
pieces_end inner many counter all words pieces going over =
    let e : many - counter ≡ 0 = omega (arith, over) in
    let step : option_map (in_front (map tree pieces)) (terms_in inner (many - counter) words) ≡ Some (map tree pieces, words) =
    rw e (ap (λ ts. Some (beside ts words)) (append-nil (map tree pieces))) in
    going ∙ step

pub behind_found : (deep : ℕ) (word : Word) (verb : TermVerb) (words mid : List Word) (o : Option (Tree × List Word)) → 0 < deep → words ≡ word ∷ mid → term_verb_of word ≡ Some verb → term_behind (term_in (deep - 1)) verb mid ≡ o → term_in deep words ≡ o
behind_found zero word verb words mid o some e found h = absurd (omega (arith, some))
behind_found (suc d) word verb words mid o some e found h =
    let less : suc d - 1 ≡ d = omega arith in
    let read : term_behind (term_in d) verb mid ≡ o = subst (λ k. term_behind (term_in k) verb mid ≡ o) less h in
    rw (e, found) read

-- ---- what was read is written so

-- a term of at most this depth stands in front of these words
abbrev pub Stands : ℕ → List Word → List Word → Tree → Type 0
Stands d words rest t = (front : List Word) × (words ≡ front ++ rest) × IsTerm t front × (depth t ≤ d)

abbrev pub StandAll : ℕ → ℕ → List Word → List Word → List Tree → Type 0
StandAll d n words rest ts = (front : List Word) × (words ≡ front ++ rest) × AreTerms (trees_of ts) front × (depth_all (trees_of ts) ≤ d) × (count (trees_of ts) ≡ n)

abbrev IsReader : ℕ → Read Tree → Type 0
IsReader d inner = (words rest : List Word) (t : Tree) → inner words ≡ Some (t, rest) → Stands d words rest t

atom_parts : {A : Type 0} (f : Word → Option A) (make : A → Tree) (words rest : List Word) (t : Tree) → atom_by f make words ≡ Some (t, rest) → (a : A) × (word : Word) × (words ≡ word ∷ rest) × (f word ≡ Some a) × (make a ≡ t)
atom_parts f make words rest t h =
    let read = bind_parts (one_by f words) (λ r. Some (make r.0, r.1)) (t, rest) h in
    let last = some_pair (make read.0.0) t read.0.1 rest read.2 in
    let one = one_parts f words read.0.1 read.0.0 read.1 in
    (read.0.0, one.0, one.1 ∙ ap (λ ws. one.0 ∷ ws) last.1, one.2, last.0)

-- an atom that was read stands there
atom_stands : {A : Type 0} (d : ℕ) (f : Word → Option A) (make : A → Tree) (Says : A → Word → Type 0) (name : Word) → ((a : A) → depth (make a) ≡ 1) → ((a : A) (word : Word) → Says a word → IsTerm (make a) (name ∷ word ∷ [])) → ((word : Word) (a : A) → f word ≡ Some a → Says a word) → (words rest : List Word) (t : Tree) → atom_by f make words ≡ Some (t, rest) → Stands (suc d) (name ∷ words) rest t
atom_stands d f make Says name shallow written said words rest t h =
    let read = atom_parts f make words rest t h in
    let one = shallow read.0 in
    subst (Stands (suc d) (name ∷ words) rest) read.4
    (name ∷ read.1 ∷ [], ap (λ ws. name ∷ ws) read.2, written read.0 read.1 (said read.1 read.0 read.3), omega (arith, one))

some_joined : (d n : ℕ) (inner : Read Tree) → IsReader d inner → (words rest : List Word) (ts : List Tree) → terms_in inner n words ≡ Some (ts, rest) → StandAll d n words rest ts
some_joined d zero inner reads words rest ts h =
    let both = some_pair [] ts words rest h in
    subst (StandAll d 0 words rest) both.0 ([], both.1, refl, omega arith, refl)
some_joined d (suc n) inner reads words rest ts h =
    let first = bind_parts (inner words) _ (ts, rest) h in
    let others = bind_parts (terms_in inner n first.0.1) _ (ts, rest) first.2 in
    let last = some_pair (first.0.0 ∷ others.0.0) ts others.0.1 rest others.2 in
    let one = reads words first.0.1 first.0.0 first.1 in
    let more = some_joined d n inner reads first.0.1 others.0.1 others.0.0 others.1 in
    let deep = one.3 in
    let less = more.3 in
    subst (StandAll d (suc n) words rest) last.0 (
      one.0 ++ more.0,
      one.1 ∙ ap (λ ws. one.0 ++ ws) (more.1 ∙ ap (λ ws. more.0 ++ ws) last.1) ∙ sym (append_assoc one.0 more.0 rest),
      (one.0, more.0, refl, one.2, more.2),
      omega (arith, deep, less),
      ap suc more.4,
    )

cat_stands : (d : ℕ) (inner : Read Tree) → IsReader d inner → (words rest : List Word) (t : Tree) → cat_in inner words ≡ Some (t, rest) → Stands (suc d) (codes "cat" ∷ words) rest t
cat_stands d inner reads words rest t h =
    let many = bind_parts (one_by number_of words) _ (t, rest) h in
    let terms = bind_parts (terms_in inner many.0.0 many.0.1) _ (t, rest) many.2 in
    let last = some_pair (joined (trees_of terms.0.0)) t terms.0.1 rest terms.2 in
    let word = one_parts number_of words many.0.1 many.0.0 many.1 in
    let number = number_parts word.0 many.0.0 word.2 in
    let all = some_joined d many.0.0 inner reads many.0.1 terms.0.1 terms.0.0 terms.1 in
    let digits : word.0 ≡ decimal (count (trees_of terms.0.0)) = number.0 ∙ ap decimal (sym all.4) in
    let less = all.3 in
    subst (Stands (suc d) (codes "cat" ∷ words) rest) last.0 (
      codes "cat" ∷ decimal (count (trees_of terms.0.0)) ∷ all.0,
      ap (λ ws. codes "cat" ∷ ws) (word.1 ∙ ap₂ (λ w ws. w ∷ ws) digits (all.1 ∙ ap (λ ws. all.0 ++ ws) last.1)),
      (all.0, refl, subst IsSmall (sym all.4) number.1, all.2),
      omega (arith, less),
    )

-- two terms, one behind the other
abbrev two_of : Read Tree → (Tree → Tree → Tree) → Read Tree
two_of inner make words = do
  key ← inner words
  body ← inner key.1
  Some (make key.0 body.0, body.1)

record Two (d : ℕ) (words rest : List Word) (make : Tree → Tree → Tree) (t : Tree) : Type 0 where
  a : Tree
  b : Tree
  key : List Word
  body : List Word
  whole : words ≡ key ++ (body ++ rest)
  one : IsTerm a key
  other : IsTerm b body
  one_deep : depth a ≤ d
  other_deep : depth b ≤ d
  made : make a b ≡ t

two_stand : (d : ℕ) (inner : Read Tree) → IsReader d inner → (make : Tree → Tree → Tree) (words rest : List Word) (t : Tree) → two_of inner make words ≡ Some (t, rest) → Two d words rest make t
two_stand d inner reads make words rest t h =
    let key = bind_parts (inner words) _ (t, rest) h in
    let body = bind_parts (inner key.0.1) _ (t, rest) key.2 in
    let last = some_pair (make key.0.0 body.0.0) t body.0.1 rest body.2 in
    let one = reads words key.0.1 key.0.0 key.1 in
    let two = reads key.0.1 body.0.1 body.0.0 body.1 in
    record {
      a = key.0.0;
      b = body.0.0;
      key = one.0;
      body = two.0;
      whole = one.1 ∙ ap (λ ws. one.0 ++ ws) (two.1 ∙ ap (λ ws. two.0 ++ ws) last.1);
      one = one.2;
      other = two.2;
      one_deep = one.3;
      other_deep = two.3;
      made = last.0;
    }

seal_stands : (d : ℕ) (inner : Read Tree) → IsReader d inner → (words rest : List Word) (t : Tree) → seal_in inner words ≡ Some (t, rest) → Stands (suc d) (codes "seal" ∷ words) rest t
seal_stands d inner reads words rest t h =
    let two = two_stand d inner reads seal words rest t h in
    let one = two.one_deep in
    let other = two.other_deep in
    subst (Stands (suc d) (codes "seal" ∷ words) rest) two.made (
      codes "seal" ∷ (two.key ++ two.body),
      ap (λ ws. codes "seal" ∷ ws) (two.whole ∙ sym (append_assoc two.key two.body rest)),
      (two.key, two.body, refl, two.one, two.other),
      omega (arith, one, other),
    )

mac_stands : (d : ℕ) (inner : Read Tree) → IsReader d inner → (words rest : List Word) (t : Tree) → mac_in inner words ≡ Some (t, rest) → Stands (suc d) (codes "mac" ∷ words) rest t
mac_stands d inner reads words rest t h =
    let kind = bind_parts (one_by kind_of words) _ (t, rest) h in
    let word = one_parts kind_of words kind.0.1 kind.0.0 kind.1 in
    let two = two_stand d inner reads (digest kind.0.0) kind.0.1 rest t kind.2 in
    let one = two.one_deep in
    let other = two.other_deep in
    subst (Stands (suc d) (codes "mac" ∷ words) rest) two.made (
      codes "mac" ∷ kind_word kind.0.0 ∷ (two.key ++ two.body),
      ap (λ ws. codes "mac" ∷ ws) (word.1 ∙ ap₂ (λ w ws. w ∷ ws) (kind_parts word.0 kind.0.0 word.2) (two.whole ∙ sym (append_assoc two.key two.body rest))),
      (two.key, two.body, refl, two.one, two.other),
      omega (arith, one, other),
    )

behind_stands : (d : ℕ) (verb : TermVerb) (inner : Read Tree) → IsReader d inner → (words rest : List Word) (t : Tree) → term_behind inner verb words ≡ Some (t, rest) → Stands (suc d) (term_word verb ∷ words) rest t
behind_stands d v.Pub inner reads words rest t h = atom_stands d hex_of plain IsHex (codes "pub") (λ a. refl) (λ a w s. (w, refl, s)) hex_parts words rest t h
behind_stands d v.Nonce inner reads words rest t h = atom_stands d number_of nonce IsNumber (codes "nonce") (λ a. refl) (λ a w s. (w, refl, s)) number_parts words rest t h
behind_stands d v.AsChal inner reads words rest t h = atom_stands d number_of challenge IsNumber (codes "aschal") (λ a. refl) (λ a w s. (w, refl, s)) number_parts words rest t h
behind_stands d v.LKey inner reads words rest t h = atom_stands d name_of long_key IsKeyName (codes "lkey") (λ a. refl) (λ a w s. (w, refl, s)) name_parts words rest t h
behind_stands d v.SKey inner reads words rest t h = atom_stands d number_of ticket_key IsNumber (codes "skey") (λ a. refl) (λ a w s. (w, refl, s)) number_parts words rest t h
behind_stands d v.Junk inner reads words rest t h = atom_stands d number_of junk_key IsNumber (codes "junk") (λ a. refl) (λ a w s. (w, refl, s)) number_parts words rest t h
behind_stands d v.Pw inner reads words rest t h = atom_stands d name_of password IsKeyName (codes "pw") (λ a. refl) (λ a w s. (w, refl, s)) name_parts words rest t h
behind_stands d v.Cat inner reads words rest t h = cat_stands d inner reads words rest t h
behind_stands d v.Seal inner reads words rest t h = seal_stands d inner reads words rest t h
behind_stands d v.Mac inner reads words rest t h = mac_stands d inner reads words rest t h

verb_parts : (word : Word) (verb : TermVerb) → term_verb_of word ≡ Some verb → word ≡ term_word verb
verb_parts word verb h = (bytes_eq-Decides word (term_word verb)).0 (find_parts (λ v. bytes_eq word (term_word v)) term_verbs verb h)

pub term_parts : (d : ℕ) → IsReader d (term_in d)
term_parts zero words rest t h = absurd cc
term_parts (suc d) words rest t h =
    let verb = bind_parts (one_by term_verb_of words) _ (t, rest) h in
    let word = one_parts term_verb_of words verb.0.1 verb.0.0 verb.1 in
    let name = verb_parts word.0 verb.0.0 word.2 in
    let whole : words ≡ term_word verb.0.0 ∷ verb.0.1 = word.1 ∙ ap (λ w. w ∷ verb.0.1) name in
    subst (λ ws. Stands (suc d) ws rest t) (sym whole) (behind_stands d verb.0.0 (term_in d) (term_parts d) verb.0.1 rest t verb.2)

-- ---- what is written is read so

some_deep : (t : Tree) → 1 ≤ depth t
some_deep (plain b) = omega arith
some_deep (nonce n) = omega arith
some_deep (challenge n) = omega arith
some_deep (long_key n) = omega arith
some_deep (ticket_key n) = omega arith
some_deep (junk_key n) = omega arith
some_deep (password n) = omega arith
some_deep (joined ts) = omega arith
some_deep (seal k t) = omega arith
some_deep (digest kind p t) = omega arith

-- the list of pieces, and its pieces
abbrev pub pieces_of : Trees → List Tree
pieces_of none = []
pieces_of (piece t ts) = t ∷ pieces_of ts

pieces_again : (ts : Trees) → trees_of (pieces_of ts) ≡ ts
pieces_again none = refl
pieces_again (piece t ts) = ap (piece t) (pieces_again ts)

-- what is read behind a verb that was found
abbrev Reads : Tree → ℕ → List Word → List Word → Type 0
Reads t d words rest = term_in d (words ++ rest) ≡ Some (t, rest)

behind_verb : (verb : TermVerb) (d : ℕ) (t : Tree) (words more rest : List Word) → term_verb_of (term_word verb) ≡ Some verb → words ≡ term_word verb ∷ more → term_behind (term_in d) verb (more ++ rest) ≡ Some (t, rest) → Reads t (suc d) words rest
behind_verb verb d t words more rest found e h = rw (e, found) h

atom_behind : {A : Type 0} (f : Word → Option A) (make : A → Tree) (a : A) (word : Word) (rest : List Word) → f word ≡ Some a → atom_by f make (word ∷ rest) ≡ Some (make a, rest)
atom_behind f make a word rest h = rw h refl

number_behind : (make : ℕ → Tree) (number : ℕ) (word : Word) (rest : List Word) → IsNumber number word → atom_by number_of make (word ∷ rest) ≡ Some (make number, rest)
number_behind make number word rest h = atom_behind number_of make number word rest (number_again number word h.1 h.0)

name_behind : (make : List ℕ → Tree) (name : List ℕ) (word : Word) (rest : List Word) → IsKeyName name word → atom_by name_of make (word ∷ rest) ≡ Some (make name, rest)
name_behind make name word rest h = atom_behind name_of make name word rest (name_again word name h)

cat_behind : (d : ℕ) (ts : Trees) (pieces rest : List Word) → IsSmall (count ts) → terms_in (term_in d) (count ts) (pieces ++ rest) ≡ Some (pieces_of ts, rest) → cat_in (term_in d) (decimal (count ts) ∷ (pieces ++ rest)) ≡ Some (joined ts, rest)
cat_behind d ts pieces rest small h =
    let number : number_of (decimal (count ts)) ≡ Some (count ts) = number_again (count ts) (decimal (count ts)) small refl in
    rw (number, h, pieces_again ts) refl

two_behind : (inner : Read Tree) (make : Tree → Tree → Tree) (a b : Tree) (key body rest : List Word) → inner (key ++ (body ++ rest)) ≡ Some (a, body ++ rest) → inner (body ++ rest) ≡ Some (b, rest) → two_of inner make ((key ++ body) ++ rest) ≡ Some (make a b, rest)
two_behind inner make a b key body rest one other = rw (append_assoc key body rest, one, other) refl

mac_behind : (inner : Read Tree) (kind : MacKind) (a b : Tree) (key body rest : List Word) → inner (key ++ (body ++ rest)) ≡ Some (a, body ++ rest) → inner (body ++ rest) ≡ Some (b, rest) → mac_in inner (kind_word kind ∷ ((key ++ body) ++ rest)) ≡ Some (digest kind a b, rest)
mac_behind inner kind a b key body rest one other = rw (kind_again kind) (two_behind inner (digest kind) a b key body rest one other)

piece_behind : (inner : Read Tree) (t : Tree) (ts : List Tree) (n : ℕ) (words first others rest : List Word) → words ≡ first ++ others → inner (first ++ (others ++ rest)) ≡ Some (t, others ++ rest) → terms_in inner n (others ++ rest) ≡ Some (ts, rest) → terms_in inner (suc n) (words ++ rest) ≡ Some (t ∷ ts, rest)
piece_behind inner t ts n words first others rest e one more = rw (e, append_assoc first others rest, one, more) refl

left_deep : (a b d : ℕ) → suc (max a b) ≤ suc d → a ≤ d
left_deep a b d h = omega (arith, h)

right_deep : (a b d : ℕ) → suc (max a b) ≤ suc d → b ≤ d
right_deep a b d h = omega (arith, h)

again_by : (t : Tree) (d : ℕ) (words rest : List Word) → depth t ≤ d → ((e : ℕ) → depth t ≤ suc e → Reads t (suc e) words rest) → Reads t d words rest
again_by t zero words rest deep again = absurd (let some = some_deep t in omega (arith, deep, some))
again_by t (suc d) words rest deep again = again d deep

mutual
  pub term_again : (t : Tree) (d : ℕ) (words rest : List Word) → depth t ≤ suc d → IsTerm t words → Reads t (suc d) words rest
  term_again (plain bytes) d words rest deep h = behind_verb v.Pub d (plain bytes) words (h.0 ∷ []) rest refl h.1 (atom_behind hex_of plain bytes h.0 rest (hex_again h.0 bytes h.2))
  term_again (nonce n) d words rest deep (word, e, says) = behind_verb v.Nonce d (nonce n) words (word ∷ []) rest refl e (number_behind nonce n word rest says)
  term_again (challenge n) d words rest deep (word, e, says) = behind_verb v.AsChal d (challenge n) words (word ∷ []) rest refl e (number_behind challenge n word rest says)
  term_again (long_key name) d words rest deep (word, e, says) = behind_verb v.LKey d (long_key name) words (word ∷ []) rest refl e (name_behind long_key name word rest says)
  term_again (ticket_key n) d words rest deep (word, e, says) = behind_verb v.SKey d (ticket_key n) words (word ∷ []) rest refl e (number_behind ticket_key n word rest says)
  term_again (junk_key n) d words rest deep (word, e, says) = behind_verb v.Junk d (junk_key n) words (word ∷ []) rest refl e (number_behind junk_key n word rest says)
  term_again (password name) d words rest deep (word, e, says) = behind_verb v.Pw d (password name) words (word ∷ []) rest refl e (name_behind password name word rest says)
  term_again (joined ts) d words rest deep (pieces, e, small, all) = behind_verb v.Cat d (joined ts) words (decimal (count ts) ∷ pieces) rest refl e (cat_behind d ts pieces rest small (all_again ts d pieces rest (omega (arith, deep)) all))
  term_again (seal k t) d words rest deep (key, body, e, one, other) = behind_verb v.Seal d (seal k t) words (key ++ body) rest refl e
      (two_behind (term_in d) seal k t key body rest (again_by k d key (body ++ rest) (left_deep (depth k) (depth t) d deep) (λ e less. term_again k e key (body ++ rest) less one)) (again_by t d body rest (right_deep (depth k) (depth t) d deep) (λ e less. term_again t e body rest less other)))
  term_again (digest kind p t) d words rest deep (key, body, e, one, other) = behind_verb v.Mac d (digest kind p t) words (kind_word kind ∷ (key ++ body)) rest refl e
      (mac_behind (term_in d) kind p t key body rest (again_by p d key (body ++ rest) (left_deep (depth p) (depth t) d deep) (λ e less. term_again p e key (body ++ rest) less one)) (again_by t d body rest (right_deep (depth p) (depth t) d deep) (λ e less. term_again t e body rest less other)))

  all_again : (ts : Trees) (d : ℕ) (words rest : List Word) → depth_all ts ≤ d → AreTerms ts words → terms_in (term_in d) (count ts) (words ++ rest) ≡ Some (pieces_of ts, rest)
  all_again none d words rest deep h = rw h refl
  all_again (piece t ts) d words rest deep (first, others, e, one, more) = piece_behind (term_in d) t (pieces_of ts) (count ts) words first others rest e
      (again_by t d first (others ++ rest) (omega (arith, deep)) (λ e less. term_again t e first (others ++ rest) less one)) (all_again ts d others rest (omega (arith, deep)) more)

pub whole_again : (t : Tree) (d : ℕ) (words rest : List Word) → depth t ≤ d → IsTerm t words → term_in d (words ++ rest) ≡ Some (t, rest)
whole_again t d words rest deep h = again_by t d words rest deep (λ e less. term_again t e words rest less h)
