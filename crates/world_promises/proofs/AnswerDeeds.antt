-- The deeds of an answer of the authentication server, or of its absence: its conversation meets it, lines are logged, and the
-- read that waits for it is told what the role answers.
use Rattle.std.proofs.Common.{◌≡◌, ℕ, List, [], ◌∷◌, Bool, true, false, cond, eqb, ◌&&◌, ◌||◌, not, Option, Some, refl, ap, ◌∙◌, inl, inr, filter}
use Rattle.std.specs.Prelude.{find}
use Rattle.std.specs.List.{list_all, list_any}
use Rattle.std.proofs.lemmas.Bool.{cases_Bool}
use Rattle.roles.specs.declared.need.Need.TheVariants.{Nothing}
use Rattle.roles.specs.Starts.{Start}
use Rattle.roles.specs.Talks.{Call as Move, heard, unheard}
use Rattle.talks.specs.declared.answer.RpcAnswer.{RpcAnswer}
use Rattle.talks.specs.declared.answer.RpcAnswer.TheVariants as a
use Rattle.side_files.specs.Calls as side
use Rattle.talks.specs.Protocols.{answers, needs}
use Rattle.talks.specs.declared.said.Said.{Said}
use Rattle.talks.specs.Answers.{move_answer}
use Rattle.talks.specs.Calls.{Call, Heard, Unheard, Took}
use Rattle.talks.specs.Lines.{log_lines}
use Rattle.talks.specs.Standings.{Begun, Phase, OnServer, Kept, Standing, made, phase_after, standing, then_stands, with_move}
use Rattle.agent_history.specs.Deeds.{Deed, OfLog, OfReplies, OfTalk, Settled, Swept, is_debug}
use Rattle.agent_history.specs.Replies.{Wait, has_settled, is_unsettled, reader, swept, waits}
use Rattle.agent_history.specs.SideFiles.{all_served}
use Rattle.agent_history.specs.Conversations.{Speaker, deliver_to, delivered, fits, give_to, logged, met, questions, raising, resumed, seeking, seeking_all, sought_once, speaker_of, standing_of, talk, then_logged, then_raised, then_sought, then_took, told}
use Rattle.world_promises.proofs.AllRoles.{all_roles}
use Rattle.wire_histories.specs.Conversations.{is_asked}
use Rattle.world_promises.specs.Telling.{on_server}
use Rattle.driven_agents.specs.Quiet.{NamesNoLines, leads_away}
use Rattle.driven_agents.specs.Idle.{read_of}
use Rattle.driven_agents.proofs.CallLemmas.{logged_same, nobody_served, own_talk}
use Rattle.agent_laws.proofs.KindLaws.{same_number}
use Rattle.world_promises.proofs.FoundLemmas.{found_first, found_later}

-- what a conversation meets by an answer or by its absence, the move that its role makes by it, and what becomes of its questions
pub record IsAnswer (call : Call) (move : Move) : Type 0 where
  pub makes : (s : Standing) → then_stands s OnServer call ≡ made s move s.begun
  pub rests : (start : Start) (talk : List Move) → is_asked (needs start talk) ≡ true → needs start (move ∷ talk) ≡ Nothing
  pub asks : (number : ℕ) (done : List Deed) → questions (OfTalk number call ∷ done) ≡ filter (λ q. not (eqb q.conv number)) (questions done)

pub answer_is : (bytes : List ℕ) → IsAnswer (Heard bytes) (heard bytes)
answer_is bytes = record { makes = λ s. refl; rests = λ start talk asked. (all_roles start).answered talk bytes asked; asks = λ number done. refl }

pub absence_is : IsAnswer Unheard unheard
absence_is = record { makes = λ s. refl; rests = λ start talk asked. (all_roles start).unanswered talk asked; asks = λ number done. refl }

-- ---- how the conversation stands then

-- what its role answers
abbrev pub answer_by : Move → Begun → RpcAnswer
answer_by move b = move_answer a.Ok b.key (answers b.start b.moves move)

abbrev pub kept : Move → Begun → Bool → Said → Standing
kept move b starting said = record { begun = Some (with_move b move); phase = Kept (answer_by move b); starting = starting; said = said }

pub makes_kept : (call : Call) (move : Move) → IsAnswer call move → (b : Begun) (starting : Bool) (said : Said) → is_asked (needs b.start b.moves) ≡ true → made (on_server b starting said) move (Some b) ≡ kept move b starting said
makes_kept call move is b starting said asked =
    ap (λ n. record { begun = Some (with_move b move); phase = phase_after n (answer_by move b); starting = starting; said = said }) (is.rests b.start b.moves asked)

call_stands : (call : Call) (move : Move) → IsAnswer call move → (s : Standing) (b : Begun) (starting : Bool) (said : Said) → s ≡ on_server b starting said → is_asked (needs b.start b.moves) ≡ true → then_stands s s.phase call ≡ kept move b starting said
call_stands call move is s b starting said stood asked =
    ap (λ x. then_stands x x.phase call) stood ∙ is.makes (on_server b starting said) ∙ makes_kept call move is b starting said asked

pub stands_kept : (call : Call) (move : Move) → IsAnswer call move → (number : ℕ) (done : List Deed) (b : Begun) (starting : Bool) (said : Said) → standing_of done number ≡ on_server b starting said → is_asked (needs b.start b.moves) ≡ true → standing_of (OfTalk number call ∷ done) number ≡ kept move b starting said
stands_kept call move is number done b starting said stood asked =
    ap standing (own_talk number call done) ∙ call_stands call move is (standing_of done number) b starting said stood asked

-- ---- what follows on it

-- it searches for nothing
once_rests : (number : ℕ) (done : List Deed) (answer : RpcAnswer) → (standing_of done number).phase ≡ Kept answer → sought_once number done ≡ done
once_rests number done answer e = ap (λ p. seeking number p done) e

all_rest : (starting : Bool) (number : ℕ) (done : List Deed) → sought_once number done ≡ done → seeking_all starting number done ≡ done
all_rest true number done e = ap (λ d. sought_once number (sought_once number d)) e ∙ ap (sought_once number) e ∙ e
all_rest false number done e = e

sought_rests : (number : ℕ) (done : List Deed) (answer : RpcAnswer) → (standing_of done number).phase ≡ Kept answer → then_sought number done ≡ done
sought_rests number done answer e = all_rest (standing_of done number).starting number done (once_rests number done answer e)

raised_rests : (number : ℕ) (done : List Deed) (answer : RpcAnswer) → (standing_of done number).phase ≡ Kept answer → then_raised number done ≡ done
raised_rests number done answer e = ap (λ p. raising number p done) e

names_logged : (lines : List (List ℕ)) (done : List Deed) → NamesNoLines done → NamesNoLines (logged lines done)
names_logged lines done names = logged_same (list_all leads_away) (λ line d. refl) lines done ∙ names

-- the lines that are logged
abbrev pub lines_by : ℕ → Call → List Deed → List (List ℕ)
lines_by number call done = log_lines (is_debug (OfTalk number call ∷ done)) number (standing_of done number) (standing_of (OfTalk number call ∷ done) number)

abbrev pub met_by : ℕ → Call → List Deed → List Deed
met_by number call done = logged (lines_by number call done) (OfTalk number call ∷ done)

met_so : (number : ℕ) (call : Call) (done : List Deed) (answer : RpcAnswer) → (standing_of (OfTalk number call ∷ done) number).phase ≡ Kept answer → NamesNoLines done → met number call done ≡ met_by number call done
met_so number call done answer e names =
    let stood = standing_of done number in
    let one = OfTalk number call ∷ done in
    ap (λ d. all_served (then_logged number stood (then_raised number d))) (sought_rests number one answer e)
    ∙ ap (λ d. all_served (then_logged number stood d)) (raised_rests number one answer e)
    ∙ nobody_served (met_by number call done) (names_logged (lines_by number call done) one names)

-- ---- the read is told

-- what becomes of the answer, behind the deeds of what is met
abbrev pub told_by : ℕ → ℕ → RpcAnswer → List Deed → List Deed
told_by number fid answer done = OfReplies 0 (Settled fid (told 8192 answer)) ∷ then_took number 8192 answer done

deliver_so : (number fid : ℕ) (answer : RpcAnswer) (phase : Phase) (o : Option Speaker) (done : List Deed) → phase ≡ Kept answer → o ≡ Some (record { conv = number; conn = 0; fid = fid }) → reader done 0 fid ≡ Some (read_of fid) → deliver_to number phase o done ≡ told_by number fid answer done
deliver_so number fid answer phase o done kept speaks reads =
    ap (λ p. deliver_to number p o done) kept
    ∙ ap (λ s. deliver_to number (Kept answer) s done) speaks
    ∙ ap (λ w. give_to number 0 answer w done) reads

-- some read waits under the tag
found_under : (fid : ℕ) (ws : List Wait) → find (λ w. eqb w.fid fid && is_unsettled w) ws ≡ Some (read_of fid) → list_any (λ w. eqb w.tag fid) ws ≡ true
found_under fid [] e = absurd cc
found_under fid (w ∷ ws) e = elim (cases_Bool (eqb w.fid fid && is_unsettled w)) [
  | inl now ↦ let same : w ≡ read_of fid = found_first (λ v. eqb v.fid fid && is_unsettled v) w (read_of fid) ws now e in ap (λ v. eqb v.tag fid || list_any (λ x. eqb x.tag fid) ws) same ∙ ap (λ b. b || list_any (λ x. eqb x.tag fid) ws) (same_number fid)
  | inr not_now ↦ or_more (eqb w.tag fid) _ (found_under fid ws (found_later (λ v. eqb v.fid fid && is_unsettled v) w (read_of fid) ws not_now e))
]
  where
    or_more : (b c : Bool) → c ≡ true → (b || c) ≡ true
    or_more true c e = refl
    or_more false c e = e

swept_so : (done : List Deed) → has_settled done ≡ true → swept done ≡ Swept ∷ done
swept_so done e = ap (λ b. cond b (Swept ∷ done) done) e

-- that its answer was read changes nothing that no call of its talk changes
pub took_same : {X : Type 0} (f : List Deed → X) (number : ℕ) (answer : RpcAnswer) (done : List Deed) → ((d : List Deed) → f (OfTalk number Took ∷ d) ≡ f d) → f (then_took number 8192 answer done) ≡ f done
took_same f number answer done same = by_test (fits 8192 answer)
  where
    by_test : (b : Bool) → f (cond b (OfTalk number Took ∷ done) done) ≡ f done
    by_test true = same done
    by_test false = refl

-- what neither talks nor lines of the log change
pub untold_same : {X : Type 0} (f : List Deed → X) (number : ℕ) (call : Call) (answer : RpcAnswer) (done : List Deed) → ((line : List ℕ) (d : List Deed) → f (OfLog (side.Pushed line) ∷ d) ≡ f d) → ((c : Call) (d : List Deed) → f (OfTalk number c ∷ d) ≡ f d) → f (then_took number 8192 answer (met_by number call done)) ≡ f done
untold_same f number call answer done logs talks =
    took_same f number answer (met_by number call done) (talks Took)
    ∙ logged_same f logs (lines_by number call done) (OfTalk number call ∷ done)
    ∙ talks call done

-- all deeds of the answer
abbrev pub answered_by : ℕ → ℕ → Call → RpcAnswer → List Deed → List Deed
answered_by number fid call answer done = Swept ∷ told_by number fid answer (met_by number call done)

pub event_so : (number fid : ℕ) (call : Call) (answer : RpcAnswer) (done : List Deed) (o : Option ℕ) → o ≡ Some number → (standing_of (OfTalk number call ∷ done) number).phase ≡ Kept answer → NamesNoLines done
    → speaker_of done number ≡ Some (record { conv = number; conn = 0; fid = fid }) → reader done 0 fid ≡ Some (read_of fid) → swept (resumed o call done) ≡ answered_by number fid call answer done
event_so number fid call answer done o asked e names speaks reads =
    let behind = met_by number call done in
    let lines = lines_by number call done in
    let one = OfTalk number call ∷ done in
    let all = told_by number fid answer behind in
    let phase : (standing_of behind number).phase ≡ Kept answer = ap (λ t. (standing t).phase) (logged_same (λ d. talk d number) (λ line d. refl) lines one) ∙ e in
    let speaks_still : speaker_of behind number ≡ Some (record { conv = number; conn = 0; fid = fid }) = logged_same (λ d. speaker_of d number) (λ line d. refl) lines one ∙ speaks in
    let reads_still : reader behind 0 fid ≡ Some (read_of fid) = logged_same (λ d. reader d 0 fid) (λ line d. refl) lines one ∙ reads in
    let waits_still : waits (then_took number 8192 answer behind) 0 ≡ waits done 0 = untold_same (λ d. waits d 0) number call answer done (λ line d. refl) (λ c d. refl) in
    let settles : has_settled all ≡ true = ap (λ ws. list_any (λ w. eqb w.tag fid) ws || has_settled (then_took number 8192 answer behind)) waits_still ∙ ap (λ b. b || has_settled (then_took number 8192 answer behind)) (found_under fid (waits done 0) reads) in
    ap (λ x. swept (resumed x call done)) asked
    ∙ ap (λ d. swept (delivered number d)) (met_so number call done answer e names)
    ∙ ap swept (deliver_so number fid answer (standing_of behind number).phase (speaker_of behind number) behind phase speaks_still reads_still)
    ∙ swept_so all settles
