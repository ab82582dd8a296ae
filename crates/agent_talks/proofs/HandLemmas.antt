-- A question that is handed out, and what is due to be handed out.
use Rattle.std.proofs.Common.{◌≡◌, ◌<◌, ℕ, List, [], ◌∷◌, length, Bool, true, false, cond, eqb, not, ◌||◌, Option, Some, None, refl, sym, ap, subst, ◌∙◌, arith}
use Rattle.std.specs.Prelude.{find, nat_lt}
use Rattle.std.proofs.lemmas.Bool.{eq-eqb, eqb-true, false≢true}
use Rattle.talks.specs.Standings.{question_of}
use Rattle.agent_history.specs.Deeds.{Deed, HandedOut}
use Rattle.agent_history.specs.Conversations.{Drop, DropDue, Question, QuestionDue, asks_challenge, drops, due, due_of, first_due, keeps, kept_by, next_question, questions, stands, standing_of}
use Rattle.agent_talks.specs.declared.held.Talks.{Talks}
use Rattle.agent_talks.specs.Speaks.{Speak, asks_for}
use Rattle.agent_talks.specs.Calls.{Calls, first_of, handed, is_kept}
use Rattle.agent_talks.specs.Keeps.{IsAlive, Keeps, is_over_at}
use Rattle.agent_talks.proofs.CallLemmas.{begun_drops, begun_others, begun_self, without_others, without_self}
use Rattle.agent_talks.proofs.SeekLemmas.{over_needs}

-- ---- the conversation of a question that is next stands

found_asks : (qs : List Question) (q : Question) → find (λ q. not q.handed) qs ≡ Some q → asks_for qs q.conv ≡ true
found_asks [] q e = absurd cc
found_asks (x ∷ qs) q e = here (not x.handed) e (λ rest. found_asks qs q rest)
  where
    either : (a b : Bool) → b ≡ true → (a || b) ≡ true
    either true b e = refl
    either false b e = e

    here : (b : Bool) → cond b (Some x) (find (λ q. not q.handed) qs) ≡ Some q → (find (λ q. not q.handed) qs ≡ Some q → asks_for qs q.conv ≡ true) → (eqb x.conv q.conv || asks_for qs q.conv) ≡ true
    here true e rest = let same : x ≡ q = cc in rw (eq-eqb x.conv q.conv (subst (λ (y : Question). x.conv ≡ y.conv) same refl)) refl
    here false e rest = either (eqb x.conv q.conv) (asks_for qs q.conv) (rest e)

pub next_stands : (done : List Deed) (t : Talks) (q : Question) → Speak done t → next_question done ≡ Some q → stands done q.conv ≡ true
next_stands done t q h e = (h.asked q.conv (found_asks (questions done) q e)).stands

-- ---- it is handed out

-- one that asks for a challenge isn't at its end
asks_runs : (done : List Deed) (conv : ℕ) → asks_challenge (question_of (standing_of done conv)) ≡ true → is_over_at done conv ≡ false
asks_runs done conv asks = by_end (is_over_at done conv) refl
  where
    by_end : (b : Bool) → is_over_at done conv ≡ b → b ≡ false
    by_end true over = absurd (false≢true (sym (ap asks_challenge (over_needs (standing_of done conv) over)) ∙ asks))
    by_end false over = refl

handed_self : (c : Calls) (asks : Bool) (conv : ℕ) → is_kept (handed asks conv c).kept conv ≡ asks
handed_self c true conv = begun_self c conv
handed_self c false conv = without_self c.kept conv

handed_others : (c : Calls) (asks : Bool) (conv q : ℕ) → eqb conv q ≡ false → is_kept (handed asks conv c).kept q ≡ is_kept c.kept q
handed_others c true conv q apart = begun_others c conv q apart
handed_others c false conv q apart = without_others c.kept conv q apart

pub handed_drops : (c : Calls) (asks : Bool) (conv : ℕ) → (handed asks conv c).drops ≡ c.drops
handed_drops c true conv = begun_drops c conv
handed_drops c false conv = refl

pub handed_keeps : (done : List Deed) (c : Calls) (question : Question) (asks : Bool) → next_question done ≡ Some question → asks ≡ asks_challenge (question_of (standing_of done question.conv)) → stands done question.conv ≡ true → Keeps done c → Keeps (HandedOut ∷ done) (handed asks question.conv c)
handed_keeps done c question asks next e there k = record {
  kept = λ q. here q (eqb question.conv q) refl ∙ sym (now q);
  drops = handed_drops c asks question.conv ∙ k.drops;
  alive = λ q is. lives q (eqb question.conv q) refl (sym (now q) ∙ is);
}
  where
    keeps_now : (q : ℕ) (b : Bool) → Bool
    keeps_now q b = cond b (asks_challenge (question_of (standing_of done q))) (keeps done q)

    now : (q : ℕ) → keeps (HandedOut ∷ done) q ≡ keeps_now q (eqb question.conv q)
    now q = ap (λ (o : Option Question). kept_by done o q (keeps done q)) next

    here : (q : ℕ) (b : Bool) → eqb question.conv q ≡ b → is_kept (handed asks question.conv c).kept q ≡ keeps_now q b
    here q true is = subst (λ (n : ℕ). is_kept (handed asks question.conv c).kept n ≡ asks_challenge (question_of (standing_of done n))) (eqb-true question.conv q is) (handed_self c asks question.conv ∙ e)
    here q false is = handed_others c asks question.conv q is ∙ k.kept q

    lives : (q : ℕ) (b : Bool) → eqb question.conv q ≡ b → keeps_now q b ≡ true → IsAlive (HandedOut ∷ done) q
    lives q true is asked = record { stands = subst (λ (n : ℕ). stands done n ≡ true) (eqb-true question.conv q is) there; runs = asks_runs done q asked }
    lives q false is kept = let was = k.alive q kept in record { stands = was.stands; runs = was.runs }

pub unhanded_keeps : (done : List Deed) (c : Calls) → next_question done ≡ None → Keeps done c → Keeps (HandedOut ∷ done) c
unhanded_keeps done c none k = record {
  kept = λ q. k.kept q ∙ sym (still q);
  drops = k.drops;
  alive = λ q e. let was = k.alive q (sym (still q) ∙ e) in record { stands = was.stands; runs = was.runs };
}
  where
    still : (q : ℕ) → keeps (HandedOut ∷ done) q ≡ keeps done q
    still q = ap (λ (o : Option Question). kept_by done o q (keeps done q)) none

-- ---- what is due

pub front_due : (ds : List Drop) (d : Drop) (o : Option Question) → Some d ≡ first_of ds → due_of ds o ≡ first_due d o
front_due [] d o e = absurd cc
front_due (x ∷ ds) d o e = let same : x ≡ d = cc in ap (λ (y : Drop). first_due y o) same

pub front_left : (ds : List Drop) (d : Drop) → Some d ≡ first_of ds → 0 < length ds
front_left [] d e = absurd cc
front_left (x ∷ ds) d e = omega arith

pub none_due : (ds : List Drop) → None ≡ first_of ds → ds ≡ []
none_due [] e = refl
none_due (x ∷ ds) e = absurd cc

-- a question that is due is the next one
pub due_asks : (done : List Deed) (question : Question) → due done ≡ QuestionDue question → next_question done ≡ Some question
due_asks done question e = here (drops done) (next_question done) e
  where
    first : (d : Drop) (q : Question) (b : Bool) → cond b (DropDue d) (QuestionDue q) ≡ QuestionDue question → Some q ≡ Some question
    first d q true e = absurd cc
    first d q false e = cc

    here : (ds : List Drop) (o : Option Question) → due_of ds o ≡ QuestionDue question → o ≡ Some question
    here [] None e = absurd cc
    here [] (Some q) e = cc
    here (d ∷ ds) None e = absurd cc
    here (d ∷ ds) (Some q) e = first d q (nat_lt d.behind q.call) e
