-- A stream and its words have one session: of two that begin them one goes on from the other.
use Rattle.std.proofs.Common.{◌≡◌, ◌⊎◌, ℕ, ◌<◌, List, [], ◌∷◌, ◌++◌, length, Some, refl, sym, ap, subst, ◌∙◌, append_assoc, append-nil, inl, inr, arith}
use Rattle.std.proofs.lemmas.List.{append_cancel_left}
use Rattle.auth_server.specs.Requests.{asked_so, kind_of, needed}
use Rattle.auth_server.specs.Answers.{Knowledge, Posed, held_in, posed}
use Rattle.auth_server.specs.Sessions.{Follows, GoesOnFrom, IsSession, bytes_of, exactly, words_of}
use Rattle.auth_server.proofs.ServeLemmas.{needs_some}

-- ---- lists

pub same_front : {A : Type 0} (xs ys us vs : List A) → length xs ≡ length ys → xs ++ us ≡ ys ++ vs → xs ≡ ys
same_front [] [] us vs n e = refl
same_front [] (y ∷ ys) us vs n e = absurd (omega (arith, n))
same_front (x ∷ xs) [] us vs n e = absurd (omega (arith, n))
same_front {A} (x ∷ xs) (y ∷ ys) us vs n e =
    let heads : x ≡ y = cc in
    let tails : xs ++ us ≡ ys ++ vs = cc in
    let shorter : length xs ≡ length ys = omega (arith, n) in
    ap (λ (z : A). z ∷ xs) heads ∙ ap (λ (zs : List A). y ∷ zs) (same_front xs ys us vs shorter tails)

-- the last of a list that isn't empty
pub with_last : {A : Type 0} (x : A) (xs : List A) → (ys : List A) × (y : A) × (x ∷ xs ≡ ys ++ y ∷ [])
with_last x [] = ([], x, refl)
with_last {A} x (z ∷ xs) = let rest = with_last z xs in (x ∷ rest.0, rest.1, ap (λ (zs : List A). x ∷ zs) rest.2)

pub kind_kept : (request more : List ℕ) → 0 < length request → kind_of (request ++ more) ≡ kind_of request
kind_kept [] more some = absurd (omega (arith, some))
kind_kept (b ∷ request) more some = refl

-- ---- sessions that go on

pub bytes_on : (later before : List Posed) → bytes_of (later ++ before) ≡ bytes_of before ++ bytes_of later
bytes_on [] before = sym (append-nil (bytes_of before))
bytes_on (p ∷ later) before = ap (λ (bytes : List ℕ). bytes ++ p.asked.request) (bytes_on later before) ∙ append_assoc (bytes_of before) (bytes_of later) p.asked.request

words_on : (later before : List Posed) → words_of (later ++ before) ≡ words_of before ++ words_of later
words_on [] before = sym (append-nil (words_of before))
words_on (p ∷ later) before = ap (λ (words : List (List ℕ)). words ++ p.asked.words) (words_on later before) ∙ append_assoc (words_of before) (words_of later) p.asked.words

module _ (InForce : ℕ → Knowledge → Type 0) where
  -- what stands behind some requests follows them
  pub follows_first : (later before : List Posed) (p : Posed) → IsSession InForce (later ++ p ∷ before) → Follows InForce before p
  follows_first [] before p s = s.0
  follows_first (newer ∷ later) before p s = follows_first later before p s.1

  pub some_bytes : (before : List Posed) (p : Posed) → Follows InForce before p → 0 < length p.asked.request
  some_bytes before p f = needs_some (held_in before) (kind_of p.asked.request) (length p.asked.request) f.whole

  -- two requests that may follow the same ones, and begin the same bytes, are as long
  as_long : (before : List Posed) (a c : Posed) (x z : List ℕ) → Follows InForce before a → Follows InForce before c → a.asked.request ++ x ≡ c.asked.request ++ z → length a.asked.request ≡ length c.asked.request
  as_long before a c x z f g e =
      let kinds : kind_of a.asked.request ≡ kind_of c.asked.request = sym (kind_kept a.asked.request x (some_bytes before a f)) ∙ (ap kind_of e ∙ kind_kept c.asked.request z (some_bytes before c g)) in
      let needs : Some (length a.asked.request) ≡ Some (length c.asked.request) = sym f.whole ∙ (ap (needed (held_in before)) kinds ∙ g.whole) in
      cc

-- of two sessions one goes on from the other
abbrev pub OneGoesOn : List Posed → List Posed → Type 0
OneGoesOn a b = GoesOnFrom a b ⊎ GoesOnFrom b a

module _ (tables : ℕ → Knowledge) where
  same_posed : (before : List Posed) (a c : Posed) (x z : List ℕ) (u w : List (List ℕ)) → Follows (exactly tables) before a → Follows (exactly tables) before c → a.asked.request ++ x ≡ c.asked.request ++ z → a.asked.words ++ u ≡ c.asked.words ++ w → a ≡ c
  same_posed before a c x z u w f g e d =
      let requests : a.asked.request ≡ c.asked.request = same_front a.asked.request c.asked.request x z (as_long (exactly tables) before a c x z f g e) e in
      let words : a.asked.words ≡ c.asked.words = same_front a.asked.words c.asked.words u w (f.three ∙ sym g.three) d in
      ap (λ (known : Knowledge). posed known a.asked) (f.in_force ∙ sym g.in_force)
      ∙ (ap (λ (request : List ℕ). posed c.known (asked_so request a.asked.words)) requests ∙ ap (λ (words : List (List ℕ)). posed c.known (asked_so c.asked.request words)) words)

  -- the next request of the one, where the other goes on
  next_on : (p : Posed) (before later b : List Posed) (x y : List ℕ) (u v : List (List ℕ)) → Follows (exactly tables) before p → IsSession (exactly tables) b → b ≡ later ++ before
      → bytes_of before ++ (p.asked.request ++ x) ≡ bytes_of b ++ y → words_of before ++ (p.asked.words ++ u) ≡ words_of b ++ v → OneGoesOn (p ∷ before) b
  next_on p before [] b x y u v f s is bytes words = inl (p ∷ [], ap (λ (rest : List Posed). p ∷ rest) (sym is))
  next_on p before (first ∷ more) b x y u v f s is bytes words =
      let last = with_last first more in
      let parts : b ≡ last.0 ++ last.1 ∷ before = is ∙ (ap (λ (l : List Posed). l ++ before) last.2 ∙ append_assoc last.0 (last.1 ∷ []) before) in
      let g : Follows (exactly tables) before last.1 = follows_first (exactly tables) last.0 before last.1 (subst (IsSession (exactly tables)) parts s) in
      let rest : bytes_of b ++ y ≡ bytes_of before ++ (last.1.asked.request ++ (bytes_of last.0 ++ y)) = ap (λ (l : List ℕ). l ++ y) (ap bytes_of parts ∙ bytes_on last.0 (last.1 ∷ before))
      ∙ (append_assoc (bytes_of before ++ last.1.asked.request) (bytes_of last.0) y ∙ append_assoc (bytes_of before) last.1.asked.request (bytes_of last.0 ++ y)) in
      let draws : words_of b ++ v ≡ words_of before ++ (last.1.asked.words ++ (words_of last.0 ++ v)) = ap (λ (l : List (List ℕ)). l ++ v) (ap words_of parts ∙ words_on last.0 (last.1 ∷ before))
      ∙ (append_assoc (words_of before ++ last.1.asked.words) (words_of last.0) v ∙ append_assoc (words_of before) last.1.asked.words (words_of last.0 ++ v)) in
      let same : p ≡ last.1 = same_posed before p last.1 x (bytes_of last.0 ++ y) u (words_of last.0 ++ v) f g
      (append_cancel_left (bytes_of before) _ _ (bytes ∙ rest)) (append_cancel_left (words_of before) _ _ (words ∙ draws)) in
      inr (last.0, parts ∙ ap (λ (z : Posed). last.0 ++ z ∷ before) (sym same))

  pub one_session : (a b : List Posed) (x y : List ℕ) (u v : List (List ℕ)) → IsSession (exactly tables) a → IsSession (exactly tables) b → bytes_of a ++ x ≡ bytes_of b ++ y → words_of a ++ u ≡ words_of b ++ v → OneGoesOn a b
  one_session [] b x y u v s t bytes words = inr (b, sym (append-nil b))
  one_session (p ∷ before) b x y u v s t bytes words =
      let bytes' : bytes_of before ++ (p.asked.request ++ x) ≡ bytes_of b ++ y = sym (append_assoc (bytes_of before) p.asked.request x) ∙ bytes in
      let words' : words_of before ++ (p.asked.words ++ u) ≡ words_of b ++ v = sym (append_assoc (words_of before) p.asked.words u) ∙ words in
      elim (one_session before b (p.asked.request ++ x) y (p.asked.words ++ u) v s.1 t bytes' words') [
        | inl more ↦ inl (p ∷ more.0, ap (λ (l : List Posed). p ∷ l) more.1)
        | inr more ↦ next_on p before more.0 b x y u v s.0 t more.1 bytes' words'
      ]
