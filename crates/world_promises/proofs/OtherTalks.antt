-- What a conversation meets by an answer of the authentication server changes no other one.
use Rattle.std.proofs.Common.{◌≡◌, ℕ, zero, suc, List, ◌∷◌, length, Bool, true, false, eqb, Option, Some, None, refl, sym, ap, subst, ◌∙◌, inl, inr}
use Rattle.std.proofs.lemmas.Bool.{cases_Bool, eq-eqb, eqb-true}
use Rattle.file_tree.specs.declared.tree.Node.{Node}
use Rattle.file_tree.specs.declared.tree.Node.TheVariants.{Confirm, Needkey, Log}
use Rattle.talks.specs.declared.answer.RpcAnswer.{RpcAnswer}
use Rattle.side_files.specs.Lines.{Found as Line, Nothing, TooLong, First, found}
use Rattle.talks.specs.Calls.{Call, Found, AsksConsent, AsksKey, Sought, Heard, Unheard, Took}
use Rattle.talks.specs.Standings.{Phase, Seeking, OnServer, Kept, finds, standing}
use Rattle.talks.specs.Lines.{log_lines}
use Rattle.agent_history.specs.declared.event.Event.TheVariants.{Answer, NoAnswer}
use Rattle.agent_history.specs.Deeds.{Deed, OfTalk, Swept, holder_of, is_debug, keys_of}
use Rattle.agent_history.specs.Replies.{Wait, has_settled, reader, swept, waits}
use Rattle.agent_history.specs.SideFiles.{all_served, line_read, lines_in, serve_first, serve_read, serve_reads, served, served_to}
use Rattle.agent_history.specs.Conversations.{Speaker, asking, deliver_to, delivered, fits, give_to, met, prompting, raising, reader_of, resumed, seeking, seeking_all, sought_once, speaker_of, standing_of, talk, then_logged, then_raised, then_sought}
use Rattle.agent_history.specs.Histories.{deeds}
use Rattle.agent_laws.proofs.GrowLaws.{last_or_not}
use Rattle.driven_agents.proofs.EditGrows.{where_so}
use Rattle.driven_agents.proofs.CallLemmas.{logged_same, other_talk}
use Rattle.world_promises.specs.Answers.{AbsencesLeave, AnswersLeave}

-- the talk of a conversation is as it was
abbrev pub SameFor : ℕ → List Deed → List Deed → Type 0
SameFor other before done = talk done other ≡ talk before other

-- numbers that aren't equal, the other way round
pub apart : (n m : ℕ) → eqb n m ≡ false → eqb m n ≡ false
apart n m off = elim (cases_Bool (eqb m n)) [
  | inl same ↦ absurd (let no_way : true ≡ false = sym (eq-eqb n m (sym (eqb-true m n same))) ∙ off in cc)
  | inr not_same ↦ not_same
]

-- ---- searches, and what follows on them

prompting_same : (number other : ℕ) (came : Found) (before done : List Deed) → SameFor other before done → SameFor other before (prompting number came done)
prompting_same number other (AsksConsent key) before done same = same
prompting_same number other AsksKey before done same = same
prompting_same number other came before done same = same

seeking_same : (number other : ℕ) (phase : Phase) (before done : List Deed) → eqb number other ≡ false → SameFor other before done → SameFor other before (seeking number phase done)
seeking_same number other Seeking before done off same =
    let came = finds (standing_of done number) (asking done) (keys_of done) in
    prompting_same number other came before (OfTalk number (Sought came) ∷ done) (other_talk number other (Sought came) done off ∙ same)
seeking_same number other phase before done off same = same

once_same : (number other : ℕ) (before done : List Deed) → eqb number other ≡ false → SameFor other before done → SameFor other before (sought_once number done)
once_same number other before done off same = seeking_same number other (standing_of done number).phase before done off same

all_same : (starting : Bool) (number other : ℕ) (before done : List Deed) → eqb number other ≡ false → SameFor other before done → SameFor other before (seeking_all starting number done)
all_same true number other before done off same =
    let one = sought_once number done in
    let two = sought_once number one in
    once_same number other before two off (once_same number other before one off (once_same number other before done off same))
all_same false number other before done off same = once_same number other before done off same

raising_same : (number other : ℕ) (phase : Phase) (before done : List Deed) → SameFor other before done → SameFor other before (raising number phase done)
raising_same number other OnServer before done same = same
raising_same number other phase before done same = same

-- ---- files of lines

line_same : (node : Node) (other : ℕ) (before done : List Deed) → SameFor other before done → SameFor other before (line_read node done)
line_same Confirm other before done same = same
line_same Needkey other before done same = same
line_same Log other before done same = same
line_same node other before done same = same

serve_same : (node : Node) (conn tag other : ℕ) (line : Line) (before done : List Deed) → SameFor other before done → SameFor other before (serve_read node conn tag line done)
serve_same node conn tag other Nothing before done same = same
serve_same node conn tag other TooLong before done same = same
serve_same node conn tag other (First line) before done same = line_same node other before done same

first_same : (node : Node) (conn other : ℕ) (o : Option Wait) (before done : List Deed) → SameFor other before done → SameFor other before (serve_first node conn o done)
first_same node conn other None before done same = same
first_same node conn other (Some wait) before done same = serve_same node conn wait.tag other (found wait.count (lines_in done node)) before done same

reads_same : (n : ℕ) (node : Node) (conn fid other : ℕ) (before done : List Deed) → SameFor other before done → SameFor other before (serve_reads n node conn fid done)
reads_same zero node conn fid other before done same = same
reads_same (suc n) node conn fid other before done same = reads_same n node conn fid other before (serve_first node conn (reader done conn fid) done) (first_same node conn other (reader done conn fid) before done same)

to_same : (node : Node) (o : Option (ℕ × ℕ)) (other : ℕ) (before done : List Deed) → SameFor other before done → SameFor other before (served_to node o done)
to_same node None other before done same = same
to_same node (Some holder) other before done same = reads_same (length (waits done holder.0)) node holder.0 holder.1 other before done same

served_same : (node : Node) (other : ℕ) (before done : List Deed) → SameFor other before done → SameFor other before (served node done)
served_same node other before done same = to_same node (holder_of done node) other before done same

all_served_same : (other : ℕ) (before done : List Deed) → SameFor other before done → SameFor other before (all_served done)
all_served_same other before done same =
    let one = served Confirm done in
    served_same Log other before (served Needkey one) (served_same Needkey other before one (served_same Confirm other before done same))

-- ---- all that it meets

met_same : (number other : ℕ) (call : Call) (done : List Deed) → eqb number other ≡ false → SameFor other done (met number call done)
met_same number other call done off =
    let stood = standing_of done number in
    let one = OfTalk number call ∷ done in
    let two = then_sought number one in
    let three = then_raised number two in
    let sought_so : SameFor other done two = all_same (standing_of one number).starting number other done one off (other_talk number other call done off) in
    let raised_so : SameFor other done three = raising_same number other (standing_of two number).phase done two sought_so in
    all_served_same other done (then_logged number stood three)
    (logged_same (λ d. talk d other) (λ line d. refl) (log_lines (is_debug three) number stood (standing_of three number)) three ∙ raised_so)

give_same : (number other conn : ℕ) (answer : RpcAnswer) (o : Option Wait) (before done : List Deed) → eqb number other ≡ false → SameFor other before done → SameFor other before (give_to number conn answer o done)
give_same number other conn answer None before done off same = same
give_same number other conn answer (Some wait) before done off same =
    where_so (SameFor other before) (fits wait.count answer) (OfTalk number Took ∷ done) done (λ _. other_talk number other Took done off ∙ same) same

deliver_same : (number other : ℕ) (phase : Phase) (o : Option Speaker) (before done : List Deed) → eqb number other ≡ false → SameFor other before done → SameFor other before (deliver_to number phase o done)
deliver_same number other (Kept answer) (Some s) before done off same = give_same number other s.conn answer (reader_of done s) before done off same
deliver_same number other phase o before done off same = same

event_same : (number other : ℕ) (call : Call) (o : Option ℕ) (done : List Deed) → o ≡ Some number → eqb number other ≡ false → SameFor other done (swept (resumed o call done))
event_same number other call o done asked off =
    let behind = met number call done in
    let all = delivered number behind in
    subst (λ x. SameFor other done (swept (resumed x call done))) (sym asked)
    (where_so (SameFor other done) (has_settled all) (Swept ∷ all) all (λ _. all_so) all_so)
  where
    all_so : SameFor other done (delivered number (met number call done))
    all_so = let behind = met number call done in deliver_same number other (standing_of behind number).phase (speaker_of behind number) done behind off (met_same number other call done off)

pub answers_leave : AnswersLeave
answers_leave other number call bytes h asked off =
    let done = deeds h in
    ap (λ t. (standing t).begun) (last_or_not (SameFor other done) h (Answer call bytes) (λ d same. same) refl (event_same number other (Heard bytes) _ done asked (apart other number off)))

pub absences_leave : AbsencesLeave
absences_leave other number call h asked off =
    let done = deeds h in
    ap (λ t. (standing t).begun) (last_or_not (SameFor other done) h (NoAnswer call) (λ d same. same) refl (event_same number other Unheard _ done asked (apart other number off)))
