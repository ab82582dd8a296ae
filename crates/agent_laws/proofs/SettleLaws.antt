-- What settling a read leaves of the reads that wait, and what is found among them.
use Rattle.std.proofs.Common.{◌≡◌, ℕ, List, [], ◌∷◌, length, map, Bool, true, false, cond, eqb, ◌||◌, Some, refl, sym, ap, ◌∙◌, inl, inr, arith}
use Rattle.std.specs.Prelude.{find}
use Rattle.std.specs.List.{list_any}
use Rattle.std.proofs.lemmas.Bool.{cases_Bool, eqb-true}
use Rattle.nine.specs.declared.message.RBody.{RBody}
use Rattle.agent_history.specs.Replies.{Wait, settle_tag, settled_by}
use Rattle.agent_history.specs.Conversations.{Speaker}

pub tag_same : (f : Wait → ℕ) → ((body : RBody) (w : Wait) → f (settled_by body w) ≡ f w) → (tag : ℕ) (body : RBody) (ws : List Wait) → map f (settle_tag tag body ws) ≡ map f ws
tag_same f same tag body [] = refl
tag_same f same tag body (w ∷ ws) = elim (cases_Bool (eqb w.tag tag)) [
  | inl e ↦ rw e (ap (λ (n : ℕ). n ∷ map f ws) (same body w))
  | inr e ↦ rw e (ap (λ (ns : List ℕ). f w ∷ ns) (tag_same f same tag body ws))
]

pub tag_length : (tag : ℕ) (body : RBody) (ws : List Wait) → length (settle_tag tag body ws) ≡ length ws
tag_length tag body [] = refl
tag_length tag body (w ∷ ws) = elim (cases_Bool (eqb w.tag tag)) [
  | inl e ↦ rw e refl
  | inr e ↦ rw e (omega (arith, tag_length tag body ws))
]

-- as many have a number
pub any_mapped : (p : ℕ → Bool) (f : Wait → ℕ) (ws : List Wait) → list_any (λ w. p (f w)) ws ≡ list_any p (map f ws)
any_mapped p f [] = refl
any_mapped p f (w ∷ ws) = ap (λ (b : Bool). p (f w) || b) (any_mapped p f ws)

pub settled_any : (p : ℕ → Bool) (f : Wait → ℕ) → ((body : RBody) (w : Wait) → f (settled_by body w) ≡ f w) → (tag : ℕ) (body : RBody) (ws : List Wait)
    → list_any (λ w. p (f w)) (settle_tag tag body ws) ≡ list_any (λ w. p (f w)) ws
settled_any p f same tag body ws = any_mapped p f (settle_tag tag body ws) ∙ ap (list_any p) (tag_same f same tag body ws) ∙ sym (any_mapped p f ws)

-- what is found passes
find_step : (test : Wait → Bool) (v wait : Wait) (ws : List Wait) (b : Bool) → test v ≡ b → cond b (Some v) (find test ws) ≡ Some wait → (find test ws ≡ Some wait → test wait ≡ true) → test wait ≡ true
find_step test v wait ws true e f more = let same : v ≡ wait = cc in ap test (sym same) ∙ e
find_step test v wait ws false e f more = more f

pub find_passes : (test : Wait → Bool) (wait : Wait) (ws : List Wait) → find test ws ≡ Some wait → test wait ≡ true
find_passes test wait [] e = absurd cc
find_passes test wait (v ∷ ws) e = find_step test v wait ws (test v) refl e (find_passes test wait ws)

-- the conversation of a number is found under it
speaker_step : (conv : ℕ) (v s : Speaker) (xs : List Speaker) (b : Bool) → eqb v.conv conv ≡ b → cond b (Some v) (find (λ x. eqb x.conv conv) xs) ≡ Some s → (find (λ x. eqb x.conv conv) xs ≡ Some s → s.conv ≡ conv) → s.conv ≡ conv
speaker_step conv v s xs true e f more = let same : v ≡ s = cc in ap (λ (x : Speaker). x.conv) (sym same) ∙ eqb-true v.conv conv e
speaker_step conv v s xs false e f more = more f

pub speaker_found : (conv : ℕ) (s : Speaker) (xs : List Speaker) → find (λ x. eqb x.conv conv) xs ≡ Some s → s.conv ≡ conv
speaker_found conv s [] e = absurd cc
speaker_found conv s (v ∷ xs) e = speaker_step conv v s xs (eqb v.conv conv) refl e (speaker_found conv s xs)
