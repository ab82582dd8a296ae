-- What is due to be handed out stays when the secrets of the keys added are hidden.
use Rattle.std.proofs.Common.{◌≡◌, ℕ, List, [], ◌∷◌, ◌++◌, drop, map, Bool, cond, eqb, ◌&&◌, not, Option, Some, None, refl, ap, ◌∙◌}
use Rattle.std.specs.Prelude.{find}
use Rattle.std.specs.List.{filter, list_any}
use Rattle.talks.specs.Calls as calls
use Rattle.talks.specs.Standings.{outcome_of, question_of, standing}
use Rattle.agent_history.specs.Deeds.{Deed, OfFids, OfKeys, OfReplies, OfConnection, OfTalk, Raised, HandedOut, OfPrompts, OfLog, DropTaken, Swept, Halted, Edited, Switched}
use Rattle.talks.specs.Lines.{is_end}
use Rattle.agent_history.specs.Conversations.{Drop, Question, Speaker, asks_challenge, drops, due, due_of, given_up, gives_up, keeps, kept_by, next_question, raised, speakers}
use Rattle.agent_laws.specs.Laws.{SameButSecrets, hidden_deed}
use Rattle.agent_laws.proofs.SightLaws.{alike, questions_hidden, raised_hidden, sight, speakers_hidden, talk_hidden}

-- ---- connections that are kept

kept_hidden : (done : List Deed) (o : Option Question) (conv : ℕ) (kept : Bool) → kept_by (map hidden_deed done) o conv kept ≡ kept_by done o conv kept
kept_hidden done None conv kept = refl
kept_hidden done (Some q) conv kept = ap (λ (met : List calls.Call). cond (eqb q.conv conv) (asks_challenge (question_of (standing met))) kept) (talk_hidden done conv)

-- whether a conversation that kept one has come to its end, or doesn't stand
still_hidden : (at conv : ℕ) (x y : Bool) (one other : List calls.Call) → x ≡ y → one ≡ other
    → cond (eqb at conv) (x && not (is_end (outcome_of (standing one)))) x ≡ cond (eqb at conv) (y && not (is_end (outcome_of (standing other)))) y
still_hidden at conv x y one other e f =
    ap (λ (b : Bool). cond (eqb at conv) (b && not (is_end (outcome_of (standing one)))) b) e
    ∙ ap (λ (met : List calls.Call). cond (eqb at conv) (y && not (is_end (outcome_of (standing met)))) y) f

there_hidden : (conv : ℕ) (x y : Bool) (one other : List Speaker) → x ≡ y → one ≡ other → (x && list_any (λ s. eqb s.conv conv) one) ≡ (y && list_any (λ s. eqb s.conv conv) other)
there_hidden conv x y one other e f = ap (λ (b : Bool). b && list_any (λ s. eqb s.conv conv) one) e ∙ ap (λ (xs : List Speaker). y && list_any (λ s. eqb s.conv conv) xs) f

keeps_hidden : (done : List Deed) (conv : ℕ) → keeps (map hidden_deed done) conv ≡ keeps done conv
keeps_hidden [] conv = refl
keeps_hidden (HandedOut ∷ done) conv =
    ap (λ (qs : List Question). kept_by (map hidden_deed done) (find (λ q. not q.handed) qs) conv (keeps (map hidden_deed done) conv)) (questions_hidden done)
    ∙ kept_hidden done (next_question done) conv (keeps (map hidden_deed done) conv)
    ∙ ap (kept_by done (next_question done) conv) (keeps_hidden done conv)
keeps_hidden (OfTalk talker call ∷ done) conv = still_hidden talker conv (keeps (map hidden_deed done) conv) (keeps done conv) _ _ (keeps_hidden done conv) (talk_hidden (OfTalk talker call ∷ done) conv)
keeps_hidden (OfFids at deed ∷ done) conv = there_hidden conv (keeps (map hidden_deed done) conv) (keeps done conv) _ _ (keeps_hidden done conv) (speakers_hidden (OfFids at deed ∷ done))
keeps_hidden (OfConnection at deed ∷ done) conv = there_hidden conv (keeps (map hidden_deed done) conv) (keeps done conv) _ _ (keeps_hidden done conv) (speakers_hidden (OfConnection at deed ∷ done))
keeps_hidden (OfKeys at (Edited edit) ∷ done) conv = keeps_hidden done conv
keeps_hidden (OfKeys at Switched ∷ done) conv = keeps_hidden done conv
keeps_hidden (OfReplies at deed ∷ done) conv = keeps_hidden done conv
keeps_hidden (Raised talker ∷ done) conv = keeps_hidden done conv
keeps_hidden (DropTaken ∷ done) conv = keeps_hidden done conv
keeps_hidden (OfPrompts about doing ∷ done) conv = keeps_hidden done conv
keeps_hidden (OfLog doing ∷ done) conv = keeps_hidden done conv
keeps_hidden (Swept ∷ done) conv = keeps_hidden done conv
keeps_hidden (Halted ∷ done) conv = refl

-- ---- those that are given up

gives_hidden : (deed : Deed) (done : List Deed) (conv : ℕ) → keeps (deed ∷ map hidden_deed done) conv ≡ keeps (deed ∷ done) conv → gives_up deed (map hidden_deed done) conv ≡ gives_up deed done conv
gives_hidden deed done conv e =
    ap (λ (b : Bool). b && not (keeps (deed ∷ map hidden_deed done) conv)) (keeps_hidden done conv)
    ∙ ap (λ (b : Bool). keeps done conv && not b) e

abbrev drop_at : ℕ → ℕ → Drop
drop_at behind conv = record { conv = conv; behind = behind }

same_kept : (g h : ℕ → Bool) (xs : List Speaker) → ((conv : ℕ) → g conv ≡ h conv) → filter (λ (s : Speaker). g s.conv) xs ≡ filter (λ (s : Speaker). h s.conv) xs
same_kept g h [] e = refl
same_kept g h (s ∷ xs) e =
    ap (λ (b : Bool). cond b (s ∷ filter (λ (t : Speaker). g t.conv) xs) (filter (λ (t : Speaker). g t.conv) xs)) (e s.conv)
    ∙ ap (λ (kept : List Speaker). cond (h s.conv) (s ∷ kept) kept) (same_kept g h xs e)

given_hidden : (deed : Deed) (done : List Deed) → ((conv : ℕ) → keeps (deed ∷ map hidden_deed done) conv ≡ keeps (deed ∷ done) conv)
    → given_up deed (map hidden_deed done) (speakers (map hidden_deed done)) ≡ given_up deed done (speakers done)
given_hidden deed done e =
    ap (λ (xs : List Speaker). given_up deed (map hidden_deed done) xs) (speakers_hidden done)
    ∙ ap (λ (n : ℕ). map (λ (s : Speaker). drop_at n s.conv) (filter (λ (s : Speaker). gives_up deed (map hidden_deed done) s.conv) (speakers done))) (raised_hidden done)
    ∙ ap (map (λ (s : Speaker). drop_at (raised done) s.conv)) (same_kept (gives_up deed (map hidden_deed done)) (gives_up deed done) (speakers done) (λ conv. gives_hidden deed done conv (e conv)))

added_hidden : (b c : Bool) (ds es : List Drop) (n k conv : ℕ) → b ≡ c → ds ≡ es → n ≡ k → cond b (ds ++ drop_at n conv ∷ []) ds ≡ cond c (es ++ drop_at k conv ∷ []) es
added_hidden b c ds es n k conv e f g = rw (e, f, g) refl

both_hidden : (ds es more others : List Drop) → ds ≡ es → more ≡ others → (ds ++ more) ≡ (es ++ others)
both_hidden ds es more others e f = rw (e, f) refl

drops_hidden : (done : List Deed) → drops (map hidden_deed done) ≡ drops done
drops_hidden [] = refl
drops_hidden (OfTalk talker call ∷ done) =
    added_hidden (gives_up (OfTalk talker call) (map hidden_deed done) talker) (gives_up (OfTalk talker call) done talker) (drops (map hidden_deed done)) (drops done) (raised (map hidden_deed done)) (raised done) talker
    (gives_hidden (OfTalk talker call) done talker (keeps_hidden (OfTalk talker call ∷ done) talker)) (drops_hidden done) (raised_hidden done)
drops_hidden (OfFids at deed ∷ done) = both_hidden _ _ _ _ (drops_hidden done) (given_hidden (OfFids at deed) done (keeps_hidden (OfFids at deed ∷ done)))
drops_hidden (OfConnection at deed ∷ done) = both_hidden _ _ _ _ (drops_hidden done) (given_hidden (OfConnection at deed) done (keeps_hidden (OfConnection at deed ∷ done)))
drops_hidden (DropTaken ∷ done) = ap (λ (ds : List Drop). drop 1 ds) (drops_hidden done)
drops_hidden (OfPrompts about doing ∷ done) = drops_hidden done
drops_hidden (OfLog doing ∷ done) = drops_hidden done
drops_hidden (OfKeys at (Edited edit) ∷ done) = drops_hidden done
drops_hidden (OfKeys at Switched ∷ done) = drops_hidden done
drops_hidden (OfReplies at deed ∷ done) = drops_hidden done
drops_hidden (Raised talker ∷ done) = drops_hidden done
drops_hidden (HandedOut ∷ done) = drops_hidden done
drops_hidden (Swept ∷ done) = drops_hidden done
drops_hidden (Halted ∷ done) = refl

pub due_alike : (a b : List Deed) → SameButSecrets a b → due a ≡ due b
due_alike a b s =
    ap (λ (ds : List Drop). due_of ds (next_question a)) (alike drops (λ done o. drops_hidden done) a b s)
    ∙ ap (λ (qs : List Question). due_of (drops b) (find (λ q. not q.handed) qs)) (sight a b s).asking
