-- An answer to a request fits a read, or says that what was given wasn't taken.
use Rattle.std.proofs.Common.{◌≡◌, ℕ, ◌≤◌, List, [], ◌∷◌, true, false, Option, Some, None, length, codes, refl, arith, inl, inr, length-append}
use Rattle.std.specs.Prelude.{◌⊎◌}
use Rattle.std.proofs.lemmas.Bool.{leb-true}
use Rattle.attr_tuples.specs.declared.attr.Attr.{Attr}
use Rattle.key_lists.specs.Lists.{KeyEntry}
use Rattle.key_lists.specs.CtlLines.{few_of}
use Rattle.roles.specs.declared.answer.Cause.{Cause}
use Rattle.roles.specs.declared.answer.Cause.TheVariants as c
use Rattle.roles.specs.declared.answer.Gave.{Gave}
use Rattle.roles.specs.declared.answer.Gave.TheVariants as g
use Rattle.roles.specs.declared.answer.PhaseWord.TheVariants as p
use Rattle.roles.specs.declared.answer.StartFault.{StartFault}
use Rattle.roles.specs.declared.answer.StartFault.TheVariants as f
use Rattle.roles.specs.declared.need.Need.{Need}
use Rattle.roles.specs.declared.need.Need.TheVariants.{Nothing, Key, Offers, Pick, Exchange}
use Rattle.roles.specs.Starts.{Start}
use Rattle.roles.specs.Talks.{Call as Move, get, give, offered, picked}
use Rattle.talks.specs.RpcAnswers.{answer_text}
use Rattle.talks.specs.Requests.{RpcRequest}
use Rattle.talks.specs.Requests as rpc
use Rattle.talks.specs.declared.answer.RpcAnswer.{RpcAnswer}
use Rattle.talks.specs.declared.answer.RpcAnswer.TheVariants as a
use Rattle.talks.specs.Protocols.{Mail, P9any, P9sk1, Protocol, answers, answers_by, needs, protocol_of, puts, puts_by, refuses}
use Rattle.talks.specs.declared.said.Said.{Said}
use Rattle.talks.specs.Answers.{cause_answer, move_answer, start_answer}
use Rattle.talks.specs.Calls.{Found, Chosen, AsksConsent, AsksKey, Denied, NoneServes, Offered, Picked}
use Rattle.talks.specs.Standings.{Begun, Phase, Kept, Standing, carried_out, made, phase_after, sought, start_by, started, told_of_key, with_key}
use Rattle.world_history.specs.Talking.{leaves_untaken}
use Rattle.world_promises.specs.Begun.{BegunWith}
use Rattle.world_promises.specs.Telling.{Searches, finds, idle, is_driven, rests, told_acts}
use Rattle.world_promises.specs.Requests.{IsWorded}
use Rattle.world_promises.proofs.AnySizes.{any_good, any_small}
use Rattle.world_promises.proofs.MailSizes.{mail_good, mail_small}
use Rattle.world_promises.proofs.SkSizes.{sk_good, sk_small}
use Rattle.world_promises.proofs.VerdictForms.{FitMoves, is_bad, is_bad_cause, is_heard}

-- ---- roles

good_by : (p : Protocol) (start : Start) (talk : List Move) (call : Move) → is_heard call ≡ false → is_bad (answers_by p start talk call) ≡ true → ⊥
good_by P9sk1 start talk call off = sk_good start talk call off
good_by P9any start talk call off = any_good start talk call off
good_by Mail start talk call off = mail_good start talk call off

role_good : (start : Start) (talk : List Move) (call : Move) → is_heard call ≡ false → is_bad (answers start talk call) ≡ true → ⊥
role_good start talk call off = good_by (protocol_of start.template) start talk call off

small_by : (p : Protocol) (start : Start) (talk : List Move) → length start.word ≡ 8 → FitMoves talk → length (puts_by p start talk get) ≤ 2048
small_by P9sk1 start talk word fit = sk_small start talk get word (tt, fit)
small_by P9any start talk word fit = any_small start talk get word (tt, fit)
small_by Mail start talk word fit = mail_small start talk get

role_small : (start : Start) (talk : List Move) → length start.word ≡ 8 → FitMoves talk → length (puts start talk get) ≤ 2048
role_small start talk word fit = small_by (protocol_of start.template) start talk word fit

-- ---- answers

-- it says that what was given wasn't taken, and gives no message
abbrev pub IsUntaken : RpcAnswer → Type 0
IsUntaken answer = (told_acts (answer_text answer) ≡ []) × (leaves_untaken (answer_text answer) ≡ true)

abbrev pub Tells : RpcAnswer → Type 0
Tells answer = (length (answer_text answer) ≤ 8192) ⊎ IsUntaken answer

start_tells : (fault : StartFault) → Tells (start_answer fault)
unfolding answer_text
start_tells f.SecretValue = inl (leb-true _ 8192 refl)
start_tells f.UnknownProto = inl (leb-true _ 8192 refl)
start_tells f.UnknownRole = inl (leb-true _ 8192 refl)
start_tells f.BadUser = inl (leb-true _ 8192 refl)
start_tells f.NoMemory = inl (leb-true _ 8192 refl)

cause_tells : (key : Option KeyEntry) (cause : Cause) → (is_bad_cause cause ≡ true → ⊥) → Tells (cause_answer key cause)
unfolding answer_text
cause_tells key c.WrongKind good = inl (leb-true _ 8192 refl)
cause_tells key c.WrongChallenge good = inl (leb-true _ 8192 refl)
cause_tells key c.WrongUser good = inl (leb-true _ 8192 refl)
cause_tells key c.NotOffered good = inl (leb-true _ 8192 refl)
cause_tells key c.ServerSaidNo good = inl (leb-true _ 8192 refl)
cause_tells key c.NoServer good = inl (leb-true _ 8192 refl)
cause_tells key c.NoRoom good = inl (leb-true _ 8192 refl)
cause_tells key c.BadKey good = absurd (good refl)

move_tells : (well : RpcAnswer) (key : Option KeyEntry) (gave : Gave) → Tells well → (is_bad gave ≡ true → ⊥) → Tells (move_answer well key gave)
unfolding answer_text leaves_untaken
move_tells well key g.Ok so good = so
move_tells well key g.Wait so good = so
move_tells well key (g.Phase p.AwaitsRead) so good = inl (leb-true _ 8192 refl)
move_tells well key (g.Phase p.AwaitsWrite) so good = inl (leb-true _ 8192 refl)
move_tells well key (g.Phase p.Broken) so good = inl (leb-true _ 8192 refl)
move_tells well key (g.TooSmall size) so good = inr (refl, refl)
move_tells well key g.TooLong so good = inl (leb-true _ 8192 refl)
move_tells well key (g.Done true) so good = inl (leb-true _ 8192 refl)
move_tells well key (g.Done false) so good = inl (leb-true _ 8192 refl)
move_tells well key g.BadKey so good = absurd (good refl)
move_tells well key (g.Refused cause) so good = cause_tells key cause good
move_tells well key g.NoMemory so good = inl (leb-true _ 8192 refl)

ok_tells : Tells a.Ok
unfolding answer_text
ok_tells = inl (leb-true _ 8192 refl)

not_started_tells : Tells a.NotStarted
unfolding answer_text
not_started_tells = inl (leb-true _ 8192 refl)

already_tells : Tells a.AlreadyStarted
unfolding answer_text
already_tells = inl (leb-true _ 8192 refl)

template_tells : Tells a.BadTemplate
unfolding answer_text
template_tells = inl (leb-true _ 8192 refl)

denied_tells : Tells a.Denied
unfolding answer_text
denied_tells = inl (leb-true _ 8192 refl)

need_tells : (template : List Attr) → Tells (a.NeedKey template)
unfolding answer_text leaves_untaken
need_tells template = inr (refl, refl)

got_tells : (bytes : List ℕ) → length bytes ≤ 2048 → Tells (a.Got bytes)
unfolding answer_text
got_tells bytes short = inl (omega (arith, length-append (codes "ok ") bytes, short))

-- ---- phases

abbrev pub PhaseTells : Phase → Type 0
PhaseTells (Kept answer) = Tells answer
PhaseTells phase = Unit {0}

after_tells : (n : Need) (answer : RpcAnswer) → Tells answer → PhaseTells (phase_after n answer)
after_tells Nothing answer so = so
after_tells (Key template) answer so = tt
after_tells (Offers template) answer so = tt
after_tells (Pick templates) answer so = tt
after_tells (Exchange request shape) answer so = tt

-- what was begun has a word of eight bytes, and fitting moves
abbrev pub MovesFit : Option Begun → Type 0
MovesFit None = Unit {0}
MovesFit (Some b) = FitMoves b.moves

started_tells : (begun : Option Begun) (phase : Phase) (said : Said) (word : List ℕ) (template : List Attr) (fault : Option StartFault) → PhaseTells (started (idle begun phase said) word template fault).phase
started_tells begun phase said word template (Some fault) = start_tells fault
started_tells begun phase said word template None = after_tells (needs (record { template = template; word = word }) []) a.Ok ok_tells

start_tells_by : (begun : Option Begun) (phase : Phase) (said : Said) (word : List ℕ) (o : Option (List Attr)) → PhaseTells (start_by (idle begun phase said) word o).phase
start_tells_by begun phase said word None = template_tells
start_tells_by begun phase said word (Some template) = started_tells begun phase said word template (refuses template)

pub carried_tells : (begun : Option Begun) (phase : Phase) (said : Said) (word : List ℕ) (request : RpcRequest) → is_driven request ≡ true → BegunWith IsWorded begun → MovesFit begun → PhaseTells (carried_out (idle begun phase said) word request).phase
carried_tells (Some b) phase said word (rpc.starts text) driven worded fit = already_tells
carried_tells None phase said word (rpc.starts text) driven worded fit = start_tells_by None phase said word (few_of text)
carried_tells None phase said word rpc.reads driven worded fit = not_started_tells
carried_tells (Some b) phase said word rpc.reads driven worded fit =
    let got = a.Got (puts b.start b.moves get) in
    after_tells (needs b.start (get ∷ b.moves)) (move_answer got b.key (answers b.start b.moves get))
    (move_tells got b.key (answers b.start b.moves get) (got_tells (puts b.start b.moves get) (role_small b.start b.moves worded fit)) (role_good b.start b.moves get refl))
carried_tells None phase said word (rpc.writes bytes) driven worded fit = not_started_tells
carried_tells (Some b) phase said word (rpc.writes bytes) driven worded fit =
    after_tells (needs b.start (give bytes ∷ b.moves)) (move_answer a.Ok b.key (answers b.start b.moves (give bytes)))
    (move_tells a.Ok b.key (answers b.start b.moves (give bytes)) ok_tells (role_good b.start b.moves (give bytes) refl))
carried_tells begun phase said word rpc.asks_info driven worded fit = absurd cc
carried_tells begun phase said word rpc.asks_attributes driven worded fit = absurd cc

made_tells : (s : Standing) (call : Move) (o : Option Begun) → is_heard call ≡ false → PhaseTells s.phase → PhaseTells (made s call o).phase
made_tells s call None off so = so
made_tells s call (Some b) off so =
    after_tells (needs b.start (call ∷ b.moves)) (move_answer a.Ok b.key (answers b.start b.moves call)) (move_tells a.Ok b.key (answers b.start b.moves call) ok_tells (role_good b.start b.moves call off))

keyed_tells : (s : Standing) (key : KeyEntry) (o : Option Begun) → PhaseTells s.phase → PhaseTells (with_key s key o).phase
keyed_tells s key None so = so
keyed_tells s key (Some b) so =
    after_tells (needs b.start (told_of_key key ∷ b.moves)) (move_answer a.Ok (Some key) (answers b.start b.moves (told_of_key key)))
    (move_tells a.Ok (Some key) (answers b.start b.moves (told_of_key key)) ok_tells (role_good b.start b.moves (told_of_key key) refl))

sought_tells : (s : Standing) (came : Found) → PhaseTells s.phase → PhaseTells (sought s came).phase
sought_tells s (Chosen key) so = keyed_tells s key s.begun so
sought_tells s (AsksConsent key) so = tt
sought_tells s AsksKey so = tt
sought_tells s Denied so = denied_tells
sought_tells s NoneServes so = need_tells _
sought_tells s (Offered list) so = made_tells s (offered list) s.begun refl so
sought_tells s (Picked place) so = made_tells s (picked place) s.begun refl so

pub searched_tells : (s now : Standing) → Searches s now → PhaseTells s.phase → PhaseTells now.phase
searched_tells s now (rests resting) so = so
searched_tells s now (finds came seeks is nobody later) so = searched_tells (sought s came) now later (sought_tells s came so)
