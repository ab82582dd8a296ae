-- How much is to be handed out behind an event of which nothing was left: few questions, and few connections that are given up.
use Rattle.std.proofs.Common.{◌≡◌, ℕ, ◌+◌, ◌≤◌, List, [], ◌∷◌, ◌++◌, length, Bool, true, false, cond, eqb, not, Option, Some, None, refl, sym, subst, arith, length-append}
use Rattle.std.specs.Prelude.{Result, Ok, filter}
use Rattle.std.specs.List.{list_any}
use Rattle.std.proofs.lemmas.List.{length-map}
use Rattle.key_lists.specs.CtlLines.{CtlLine}
use Rattle.talks.specs.Requests.{RpcRequest}
use Rattle.talks.specs.declared.request.RpcFault.{RpcFault}
use Rattle.talks.specs.declared.answer.RpcAnswer.{RpcAnswer}
use Rattle.side_files.specs.Calls as side
use Rattle.talks.specs.Calls as calls
use Rattle.talks.specs.Lines.{log_lines}
use Rattle.talks.specs.Standings.{Phase, Waiting, Seeking, OnServer, Kept, finds}
use Rattle.agent_history.specs.Deeds.{Deed, FidDeed, OfFids, OfKeys, OfTalk, OfLog, Raised, Swept, is_debug, keys_of}
use Rattle.agent_history.specs.Replies.{Wait, has_settled, swept}
use Rattle.agent_history.specs.Conversations.{Drop, Question, Speaker, asking, deliver_to, delivered, drop_of, drops, fits, give_to, given_up, gives_up, logged, met, prompting, questions, raised, raising, reader_of, resumed, seeking, seeking_all, sought_once, speaker_of, speakers, standing_of, then_logged, then_raised, then_sought, then_took}
use Rattle.agent_history.specs.Requests.{carrying_out, line_deed, lines_done, stored}
use Rattle.world_history.specs.Driving.{left_to_hand}
use Rattle.driven_agents.specs.Quiet.{NamesNoLines}
use Rattle.driven_agents.proofs.CallLemmas.{nobody_served}
use Rattle.driven_agents.proofs.HandedLaws.{unhanded}
use Rattle.world_promises.proofs.FidLemmas.{filter_few}

-- no more than so much, of an agent of whose fids none came to name a file of lines
pub record AtMost (n : ℕ) (done : List Deed) : Type 0 where
  pub names : NamesNoLines done
  pub few : left_to_hand done ≤ n

pub more_room : (n m : ℕ) (done : List Deed) → n ≤ m → AtMost n done → AtMost m done
more_room n m done most a = record { names = a.names; few = omega (arith, a.few) }

-- ---- deeds

kept_few : (keep : Question → Bool) (qs : List Question) → length (unhanded (filter keep qs)) ≤ length (unhanded qs)
kept_few keep [] = omega arith
kept_few keep (q ∷ qs) = by_tests (keep q) q.handed refl (kept_few keep qs)
  where
    by_tests : (b h : Bool) → q.handed ≡ h → length (unhanded (filter keep qs)) ≤ length (unhanded qs) → length (unhanded (cond b (q ∷ filter keep qs) (filter keep qs))) ≤ length (cond (not q.handed) (q ∷ unhanded qs) (unhanded qs))
    by_tests true true is more = rw is more
    by_tests true false is more = rw is (omega arith)
    by_tests false true is more = rw is more
    by_tests false false is more = rw is (omega arith)

one_dropped : (b : Bool) (ds : List Drop) (x : Drop) → length (cond b (ds ++ x ∷ []) ds) ≤ length ds + 1
one_dropped true ds x = omega (arith, length-append ds (x ∷ []))
one_dropped false ds x = omega arith

-- what a conversation meets may give one up
talk_few : (n conv : ℕ) (call : calls.Call) (done : List Deed) → AtMost n done → length (unhanded (questions (OfTalk conv call ∷ done))) ≤ length (unhanded (questions done)) → AtMost (n + 1) (OfTalk conv call ∷ done)
talk_few n conv call done a qs = record { names = a.names; few = omega (arith, a.few, qs, one_dropped (gives_up (OfTalk conv call) done conv) (drops done) (drop_of done conv)) }

talk_adds : (n conv : ℕ) (call : calls.Call) (done : List Deed) → AtMost n done → AtMost (n + 1) (OfTalk conv call ∷ done)
talk_adds n conv (calls.Heard bytes) done a = talk_few n conv (calls.Heard bytes) done a (kept_few (λ q. not (eqb q.conv conv)) (questions done))
talk_adds n conv calls.Unheard done a = talk_few n conv calls.Unheard done a (kept_few (λ q. not (eqb q.conv conv)) (questions done))
talk_adds n conv calls.Roomless done a = talk_few n conv calls.Roomless done a (kept_few (λ q. not (eqb q.conv conv)) (questions done))
talk_adds n conv call done a = talk_few n conv call done a (omega arith)

last_unhanded : (qs : List Question) (q : Question) → length (unhanded (qs ++ q ∷ [])) ≤ length (unhanded qs) + 1
last_unhanded [] q = by_handed q.handed
  where
    by_handed : (h : Bool) → length (cond (not h) (q ∷ []) []) ≤ 1
    by_handed true = omega arith
    by_handed false = omega arith
last_unhanded (x ∷ qs) q = by_handed x.handed (last_unhanded qs q)
  where
    by_handed : (h : Bool) → length (unhanded (qs ++ q ∷ [])) ≤ length (unhanded qs) + 1 → length (cond (not h) (x ∷ unhanded (qs ++ q ∷ [])) (unhanded (qs ++ q ∷ []))) ≤ length (cond (not h) (x ∷ unhanded qs) (unhanded qs)) + 1
    by_handed true more = more
    by_handed false more = omega arith

raised_adds : (n conv : ℕ) (done : List Deed) → AtMost n done → AtMost (n + 1) (Raised conv ∷ done)
raised_adds n conv done a = record { names = a.names; few = omega (arith, a.few, last_unhanded (questions done) (record { call = raised done + 1; conv = conv; handed = false })) }

-- a deed of a fid may give up one of each conversation
pub fid_adds : (n at : ℕ) (deed : FidDeed) (done : List Deed) → length (speakers done) ≤ 1024 → left_to_hand done ≤ n → left_to_hand (OfFids at deed ∷ done) ≤ n + 1024
fid_adds n at deed done few left =
    let ss = filter (λ s. gives_up (OfFids at deed) done s.conv) (speakers done) in
    let kept = kept_few (λ q. list_any (λ s. eqb s.conv q.conv) (speakers (OfFids at deed ∷ done))) (questions done) in
    omega (arith, left, kept, length-append (drops done) (given_up (OfFids at deed) done (speakers done)), length-map ss (λ s. drop_of done s.conv), filter_few (λ s. gives_up (OfFids at deed) done s.conv) (speakers done), few)

-- ---- what follows on what a conversation met

prompt_adds : (n conv : ℕ) (came : calls.Found) (done : List Deed) → AtMost n done → AtMost n (prompting conv came done)
prompt_adds n conv (calls.AsksConsent key) done a = record { names = a.names; few = a.few }
prompt_adds n conv calls.AsksKey done a = record { names = a.names; few = a.few }
prompt_adds n conv came done a = a

seek_adds : (n conv : ℕ) (phase : Phase) (done : List Deed) → AtMost n done → AtMost (n + 1) (seeking conv phase done)
seek_adds n conv Seeking done a =
    let came = finds (standing_of done conv) (asking done) (keys_of done) in
    prompt_adds (n + 1) conv came (OfTalk conv (calls.Sought came) ∷ done) (talk_adds n conv (calls.Sought came) done a)
seek_adds n conv phase done a = more_room n (n + 1) done (omega arith) a

once_adds : (n conv : ℕ) (done : List Deed) → AtMost n done → AtMost (n + 1) (sought_once conv done)
once_adds n conv done a = seek_adds n conv (standing_of done conv).phase done a

all_adds : (n : ℕ) (starting : Bool) (conv : ℕ) (done : List Deed) → AtMost n done → AtMost (n + 3) (seeking_all starting conv done)
all_adds n true conv done a =
    let one = sought_once conv done in
    let two = sought_once conv one in
    more_room (n + 1 + 1 + 1) (n + 3) (sought_once conv two) (omega arith) (once_adds (n + 1 + 1) conv two (once_adds (n + 1) conv one (once_adds n conv done a)))
all_adds n false conv done a = more_room (n + 1) (n + 3) (sought_once conv done) (omega arith) (once_adds n conv done a)

raising_adds : (n conv : ℕ) (phase : Phase) (done : List Deed) → AtMost n done → AtMost (n + 1) (raising conv phase done)
raising_adds n conv OnServer done a = raised_adds n conv done a
raising_adds n conv phase done a = more_room n (n + 1) done (omega arith) a

logged_adds : (n : ℕ) (lines : List (List ℕ)) (done : List Deed) → AtMost n done → AtMost n (logged lines done)
logged_adds n [] done a = a
logged_adds n (line ∷ lines) done a = logged_adds n lines (OfLog (side.Pushed line) ∷ done) (record { names = a.names; few = a.few })

met_adds : (n conv : ℕ) (call : calls.Call) (done : List Deed) → AtMost n done → AtMost (n + 5) (met conv call done)
met_adds n conv call done a =
    let first = OfTalk conv call ∷ done in
    let sought = then_sought conv first in
    let up = then_raised conv sought in
    let one = talk_adds n conv call done a in
    let two = all_adds (n + 1) (standing_of first conv).starting conv first one in
    let three = raising_adds (n + 1 + 3) conv (standing_of sought conv).phase sought two in
    let four : AtMost (n + 1 + 3 + 1) (then_logged conv (standing_of done conv) up) = logged_adds (n + 1 + 3 + 1) (log_lines (is_debug up) conv (standing_of done conv) (standing_of up conv)) up three in
    subst (AtMost (n + 5)) (sym (nobody_served (then_logged conv (standing_of done conv) up) four.names)) (more_room (n + 1 + 3 + 1) (n + 5) (then_logged conv (standing_of done conv) up) (omega arith) four)

-- ---- what is delivered

took_by : (n conv : ℕ) (b : Bool) (done : List Deed) → AtMost n done → AtMost (n + 1) (cond b (OfTalk conv calls.Took ∷ done) done)
took_by n conv true done a = talk_adds n conv calls.Took done a
took_by n conv false done a = more_room n (n + 1) done (omega arith) a

pub took_adds : (n conv count : ℕ) (answer : RpcAnswer) (done : List Deed) → AtMost n done → AtMost (n + 1) (then_took conv count answer done)
took_adds n conv count answer done a = took_by n conv (fits count answer) done a

give_adds : (n conv conn : ℕ) (answer : RpcAnswer) (o : Option Wait) (done : List Deed) → AtMost n done → AtMost (n + 1) (give_to conv conn answer o done)
give_adds n conv conn answer None done a = more_room n (n + 1) done (omega arith) a
give_adds n conv conn answer (Some wait) done a = let took = took_adds n conv wait.count answer done a in record { names = took.names; few = took.few }

deliver_adds : (n conv : ℕ) (phase : Phase) (o : Option Speaker) (done : List Deed) → AtMost n done → AtMost (n + 1) (deliver_to conv phase o done)
deliver_adds n conv (Kept answer) (Some s) done a = give_adds n conv s.conn answer (reader_of done s) done a
deliver_adds n conv phase o done a = more_room n (n + 1) done (omega arith) a

pub resumed_adds : (n : ℕ) (o : Option ℕ) (call : calls.Call) (done : List Deed) → AtMost n done → AtMost (n + 6) (resumed o call done)
resumed_adds n None call done a = more_room n (n + 6) done (omega arith) a
resumed_adds n (Some conv) call done a =
    let d = met conv call done in
    more_room (n + 5 + 1) (n + 6) (delivered conv d) (omega arith) (deliver_adds (n + 5) conv (standing_of d conv).phase (speaker_of d conv) d (met_adds n conv call done a))

-- ---- requests

pub carried_adds : (n conv : ℕ) (word : List ℕ) (phase : Phase) (done : List Deed) → AtMost n done → AtMost (n + 5) (carrying_out conv word phase done)
carried_adds n conv word (Waiting request) done a = met_adds n conv (calls.CarriedOut word) done a
carried_adds n conv word phase done a = more_room n (n + 5) done (omega arith) a

pub stored_adds : (n : ℕ) (o : Option ℕ) (came : Result RpcRequest RpcFault) (done : List Deed) → AtMost n done → AtMost (n + 1) (stored o came done)
stored_adds n (Some conv) (Ok request) done a = talk_adds n conv (calls.Stored request) done a
stored_adds n o came done a = more_room n (n + 1) done (omega arith) a

pub lines_add : (n conn : ℕ) (said : List CtlLine) (done : List Deed) → AtMost n done → AtMost n (lines_done conn said done)
lines_add n conn [] done a = a
lines_add n conn (line ∷ said) done a = lines_add n conn said (OfKeys conn (line_deed line) ∷ done) (record { names = a.names; few = a.few })

-- a sweep changes nothing of it
pub swept_adds : (n : ℕ) (done : List Deed) → AtMost n done → AtMost n (swept done)
swept_adds n done a = by_settled (has_settled done)
  where
    by_settled : (b : Bool) → AtMost n (cond b (Swept ∷ done) done)
    by_settled true = record { names = a.names; few = a.few }
    by_settled false = a
