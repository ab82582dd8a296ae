-- What conversations meet, and the lines of the log that follow.
use Rattle.std.proofs.Common.{◌≡◌, ℕ, List, [], ◌∷◌, Bool, true, false, not, ◌&&◌, eqb, Option, Some, refl, sym, ap, subst, ◌∙◌, inl, inr}
use Rattle.std.specs.Prelude.{is_some}
use Rattle.std.proofs.lemmas.Bool.{cases_Bool, eq-eqb, eqb-true, false≢true}
use Rattle.attr_tuples.specs.declared.attr.Attr.{Attr}
use Rattle.side_files.specs.Calls as side
use Rattle.talks.specs.Calls.{Call}
use Rattle.talks.specs.Lines.{is_end, log_lines, start_template}
use Rattle.talks.specs.Standings.{Standing, outcome_of, standing}
use Rattle.agent_history.specs.Deeds.{Deed, OfLog, is_debug}
use Rattle.agent_history.specs.Conversations.{Speaker, logged, speakers, standing_of, talk}
use Rattle.agent_talks.specs.Speaks.{is_among, stands, talked}
use Rattle.agent_talks.proofs.GrowLemmas as grow
use Rattle.agent_talks.specs.Asking.{Tells}
use Rattle.agent_talks.proofs.AskingLemmas.{talk_apart}
use Rattle.agent_talks.specs.declared.standing.Conversations.{Conversations}
use Rattle.agent_talks.specs.declared.ready.ReadyLine.{ReadyLine}
use Rattle.agent_talks.specs.Ahead.{IsMadeFor, goes_on, start_by}
use Rattle.agent_talks.specs.Logging.{HasItsLine, IsTold, Logs, SameOthers, asking_of, line_at, logged_talk}
use Rattle.agent_talks.proofs.LineLemmas.{ended_started, of_template, started_begun, told_lines}
use Rattle.agent_talks.proofs.SearchedLaws.{talked_over}
use Rattle.agent_talks.proofs.TemplateLaws.{IsOf}

-- ---- lines change no conversation

pub logged_talks : (lines : List (List ℕ)) (done : List Deed) (q : ℕ) → talk (logged lines done) q ≡ talk done q
logged_talks [] done q = refl
logged_talks (line ∷ more) done q = logged_talks more (OfLog (side.Pushed line) ∷ done) q

pub logged_speakers : (lines : List (List ℕ)) (done : List Deed) → speakers (logged lines done) ≡ speakers done
logged_speakers [] done = refl
logged_speakers (line ∷ more) done = logged_speakers more (OfLog (side.Pushed line) ∷ done)

-- ---- all that stand have their lines

abbrev pub AllHaveLines : List Deed → Conversations → Type 0
AllHaveLines done t = (q : ℕ) → stands done q ≡ true → HasItsLine done t q

-- the line for a talk
abbrev pub LineFor : List Call → ℕ → Option ReadyLine → Type 0
LineFor xs q line = IsMadeFor (goes_on (standing xs)) q (start_template (standing xs).begun) line

pub line_for : (xs ys : List Call) (q : ℕ) (line other : Option ReadyLine) → ys ≡ xs → other ≡ line → LineFor xs q line → LineFor ys q other
line_for xs ys q line other e f h = subst (λ (zs : List Call). LineFor zs q other) (sym e) (subst (λ (l : Option ReadyLine). LineFor xs q l) (sym f) h)

pub apart : (a b : ℕ) → eqb a b ≡ false → a ≡ b → ⊥
apart a b e is = false≢true (sym e ∙ eq-eqb a b is)

-- ---- behind what a conversation met

-- what its next step needs is there
pub record Ahead (done : List Deed) (mid : Conversations) (conv : ℕ) (call : Call) (over : Bool) (start : Option (List ℕ)) (coming : Option (List Attr)) : Type 0 where
  pub there : stands done conv ≡ true
  pub is_over : over ≡ is_end (outcome_of (standing_of done conv))
  -- the line of its end
  pub can : (template : List Attr) → coming ≡ Some template → is_end (outcome_of (standing_of done conv)) ≡ false → IsMadeFor true conv template (line_at mid conv)
  -- the line of its start, where it has started then
  pub starts : is_some (outcome_of (standing_of (talked conv call done) conv)) ≡ true → start ≡ start_by (is_debug done) conv (outcome_of (standing_of done conv)) coming
  -- and these are by its template
  pub of : IsOf coming (standing_of (talked conv call done) conv).begun

talked_debug : (done : List Deed) (conv : ℕ) (call : Call) → is_debug (talked conv call done) ≡ is_debug done
talked_debug done conv call = grow.met_keeps (λ d. is_debug d ≡ is_debug done) (record { met = λ d conv call h. h; asked = λ d kind call h. h; raised = λ d conv h. h }) done conv call refl

pub talk_logs : (done : List Deed) (old mid new : Conversations) (conv : ℕ) (call : Call) (over : Bool) (start : Option (List ℕ)) (coming : Option (List Attr)) → Ahead done mid conv call over start coming
    → AllHaveLines done old → SameOthers conv old mid → Tells (talked conv call done) (asking_of mid) → IsTold conv over start mid new → Logs (logged_talk conv call done) new
talk_logs done old mid new conv call over start coming a ends others tells told = record {
  tells = subst (λ (lines : List (List ℕ)). Tells (logged lines after) (asking_of new)) (told_lines (is_debug after) conv was now over start coming a.is_over starts a.of) (told.told after template still may_end tells);
  ends = λ q there.
      line_for (talk after q) (talk (logged lines after) q) q (line_at new q) (line_at new q) (logged_talks lines after q) refl
      (elim (cases_Bool (eqb conv q)) [
        | inl is ↦ subst (λ (n : ℕ). HasItsLine after new n) (eqb-true conv q is) goes
        | inr off ↦
            line_for (talk done q) (talk after q) q (line_at old q) (line_at new q) (talk_apart done conv q call off) (told.others q (apart conv q off) ∙ others q (apart conv q off))
            (ends q (stood q there))
      ]);
}
  where
    after : List Deed
    after = talked conv call done

    was : Standing
    was = standing_of done conv

    now : Standing
    now = standing_of after conv

    template : List Attr
    template = start_template now.begun

    lines : List (List ℕ)
    lines = log_lines (is_debug after) conv was now

    still : stands after conv ≡ true
    still = grow.met_keeps (λ d. stands d conv ≡ true) (grow.stands_stay conv) done conv call a.there

    stood : (q : ℕ) → stands (logged lines after) q ≡ true → stands done q ≡ true
    stood q there =
        ap (λ (xs : List Speaker). is_among xs q) (sym (logged_speakers lines after ∙ grow.met_keeps (λ d. speakers d ≡ speakers done) (grow.speakers_stay (speakers done)) done conv call refl)) ∙ there

    starts : is_some (outcome_of now) ≡ true → start ≡ start_by (is_debug after) conv (outcome_of was) coming
    starts e = a.starts e ∙ ap (λ (b : Bool). start_by b conv (outcome_of was) coming) (sym (talked_debug done conv call))

    wanted : (o e : Bool) → over ≡ o → is_end (outcome_of now) ≡ e → IsMadeFor (not o && e) conv template (line_at mid conv)
    wanted true e is ended = tt
    wanted false false is ended = tt
    wanted false true is ended = a.can template (of_template coming now.begun (started_begun now (ended_started (outcome_of now) ended)) a.of) (sym a.is_over ∙ is)

    may_end : IsMadeFor (not over && is_end (outcome_of now)) conv template (line_at mid conv)
    may_end = wanted over (is_end (outcome_of now)) refl refl

    not_over : is_end (outcome_of now) ≡ false → (o : Bool) → is_end (outcome_of was) ≡ o → o ≡ false
    not_over runs true e = absurd (false≢true (sym runs ∙ talked_over done conv call e))
    not_over runs false e = refl

    kept : (begun ended : Bool) → is_some now.begun ≡ begun → is_end (outcome_of now) ≡ ended → IsMadeFor (begun && not ended) conv template (line_at new conv)
    kept false ended has runs = tt
    kept true true has runs = tt
    kept true false has runs =
        subst (λ (l : Option ReadyLine). IsMadeFor true conv template l) (sym (told.kept after still tells runs))
        (a.can template (of_template coming now.begun has a.of) (not_over runs (is_end (outcome_of was)) refl))

    goes : HasItsLine after new conv
    goes = kept (is_some now.begun) (is_end (outcome_of now)) refl refl
