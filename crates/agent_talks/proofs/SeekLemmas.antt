-- A conversation that seeks something among the keys isn't at its end, and neither a request that is written nor an answer
-- that is read brings it there.
use Rattle.std.proofs.Common.{◌≡◌, ℕ, List, Bool, true, false, Option, Some, None, refl, sym, ap, ◌∙◌, subst}
use Rattle.std.specs.Prelude.{option_map}
use Rattle.std.proofs.lemmas.Bool.{false≢true}
use Rattle.attr_tuples.specs.declared.attr.Attr.{Attr}
use Rattle.key_lists.specs.Lists.{KeyEntry}
use Rattle.key_lists.specs.CtlLines.{few_of}
use Rattle.roles.specs.declared.answer.StartFault.{StartFault}
use Rattle.roles.specs.declared.need.Need.{Need}
use Rattle.roles.specs.declared.need.Need.TheVariants.{Nothing, Key, Offers, Pick, Exchange}
use Rattle.roles.specs.Answers.{IsKey, is_sought}
use Rattle.roles.specs.Talks.{get, give, Call as Move}
use Rattle.talks.specs.Requests.{RpcRequest, starts, reads, writes, asks_info, asks_attributes}
use Rattle.talks.specs.declared.answer.RpcAnswer.{RpcAnswer}
use Rattle.talks.specs.declared.answer.RpcAnswer.TheVariants as a
use Rattle.talks.specs.Protocols.{answers, ends, needs, puts, refuses}
use Rattle.talks.proofs.EndLaws.{none_at_the_end}
use Rattle.talks.specs.Answers.{attributes, move_answer}
use Rattle.talks.specs.Calls.{Call, Found, Chosen, AsksConsent, AsksKey, Consented, Denied, KeyTold, NoneServes, Offered, Picked, Stored, Sought, Took}
use Rattle.talks.specs.Standings.{Begun, Phase, Resting, Waiting, Seeking, OnConfirm, OnNeedkey, OnServer, Kept, Standing, answered, begin, begin_once, carried_out, if_begun, is_for, made, make_move, moved, need_in, outcome_of, outcome_unless, phase_after, sought, sought_if, start_by, started, then_stands, waits_for_user, with_key, with_move}
use Rattle.conversations.specs.Shown.{is_seeking}
use Rattle.talks.specs.Lines.{is_end}

-- ---- at its end it needs nothing

unless_needs : (waits : Bool) (begun : Option Begun) → is_end (outcome_unless waits begun) ≡ true → need_in begun ≡ Nothing
unless_needs true begun e = absurd (false≢true e)
unless_needs false None e = absurd (false≢true e)
unless_needs false (Some b) e = none_at_the_end b.start b.moves e

end_needs : (starting waits : Bool) (begun : Option Begun) → is_end (elim starting [ true ↦ outcome_unless waits begun | false ↦ option_map (λ b. ends b.start b.moves) begun ]) ≡ true → need_in begun ≡ Nothing
end_needs true waits begun e = unless_needs waits begun e
end_needs false waits None e = absurd (false≢true e)
end_needs false waits (Some b) e = none_at_the_end b.start b.moves e

pub over_needs : (s : Standing) → is_end (outcome_of s) ≡ true → need_in s.begun ≡ Nothing
over_needs s e = end_needs s.starting (waits_for_user s.phase) s.begun e

-- ---- what a request that is carried out seeks is needed

abbrev Seeks : Standing → Type 0
Seeks s = is_seeking s.phase ≡ true → is_sought (need_in s.begun) ≡ true

need_seeks : (need : Need) (answer : RpcAnswer) → is_seeking (phase_after need answer) ≡ true → is_sought need ≡ true
need_seeks (Key template) answer e = refl
need_seeks (Offers template) answer e = refl
need_seeks (Pick templates) answer e = refl
need_seeks (Exchange request shape) answer e = absurd (false≢true e)
need_seeks Nothing answer e = absurd (false≢true e)

moved_seeks : (s : Standing) (b : Begun) (answer : RpcAnswer) → Seeks (moved s b answer)
moved_seeks s b answer = need_seeks (needs b.start b.moves) answer

made_seeks : (s : Standing) (b : Begun) (move : Move) (well : RpcAnswer) → Seeks (make_move s b move well)
made_seeks s b move well = moved_seeks s (with_move b move) (move_answer well b.key (answers b.start b.moves move))

answered_seeks : (s : Standing) (answer : RpcAnswer) → Seeks (answered s answer)
answered_seeks s answer e = absurd (false≢true e)

started_seeks : (s : Standing) (word : List ℕ) (template : List Attr) (fault : Option StartFault) → Seeks (started s word template fault)
started_seeks s word template (Some fault) e = absurd (false≢true e)
started_seeks s word template None e = moved_seeks (record { begun = s.begun; phase = s.phase; starting = true; said = s.said }) (begin template word) a.Ok e

start_seeks : (s : Standing) (word : List ℕ) (template : Option (List Attr)) → Seeks (start_by s word template)
start_seeks s word None e = absurd (false≢true e)
start_seeks s word (Some template) e = started_seeks s word template (refuses template) e

once_seeks : (s : Standing) (word text : List ℕ) (begun : Option Begun) → Seeks (begin_once s word text begun)
once_seeks s word text (Some b) e = absurd (false≢true e)
once_seeks s word text None e = start_seeks s word (few_of text) e

reads_seek : (s : Standing) (begun : Option Begun) → Seeks (if_begun s begun (λ b. make_move s b get (a.Got (puts b.start b.moves get))))
reads_seek s None e = absurd (false≢true e)
reads_seek s (Some b) e = made_seeks s b get (a.Got (puts b.start b.moves get)) e

writes_seek : (s : Standing) (message : List ℕ) (begun : Option Begun) → Seeks (if_begun s begun (λ b. make_move s b (give message) a.Ok))
writes_seek s message None e = absurd (false≢true e)
writes_seek s message (Some b) e = made_seeks s b (give message) a.Ok e

shows_seek : (s : Standing) (begun : Option Begun) → Seeks (if_begun s begun (λ b. answered s (a.Attributes (attributes b.start.template b.key))))
shows_seek s None e = absurd (false≢true e)
shows_seek s (Some b) e = absurd (false≢true e)

carried_seeks : (s : Standing) (word : List ℕ) (request : RpcRequest) → Seeks (carried_out s word request)
carried_seeks s word (starts text) e = once_seeks s word text s.begun e
carried_seeks s word reads e = reads_seek s s.begun e
carried_seeks s word (writes message) e = writes_seek s message s.begun e
carried_seeks s word asks_info e = absurd (false≢true e)
carried_seeks s word asks_attributes e = shows_seek s s.begun e

-- so it isn't at its end
quiet : (s : Standing) → Seeks s → is_seeking s.phase ≡ true → is_end (outcome_of s) ≡ false
quiet s seeks e = by_end (is_end (outcome_of s)) refl
  where
    by_end : (b : Bool) → is_end (outcome_of s) ≡ b → b ≡ false
    by_end true over = absurd (false≢true (sym (ap is_sought (over_needs s over)) ∙ seeks e))
    by_end false over = refl

pub carried_quiet : (s : Standing) (word : List ℕ) (request : RpcRequest) → is_seeking (carried_out s word request).phase ≡ true → is_end (outcome_of (carried_out s word request)) ≡ false
carried_quiet s word request e = quiet (carried_out s word request) (carried_seeks s word request) e

-- ---- a start that seeks hasn't started

seeks_waits : (p : Phase) → is_seeking p ≡ true → waits_for_user p ≡ true
seeks_waits Seeking e = refl
seeks_waits Resting e = e
seeks_waits (Waiting request) e = e
seeks_waits (OnConfirm serial) e = refl
seeks_waits OnNeedkey e = refl
seeks_waits OnServer e = e
seeks_waits (Kept answer) e = e

pub starting_quiet : (s : Standing) → s.starting ≡ true → is_seeking s.phase ≡ true → is_end (outcome_of s) ≡ false
starting_quiet s begins e = rw (begins, seeks_waits s.phase e) refl

key_starting : (s : Standing) (key : KeyEntry) (begun : Option Begun) → (with_key s key begun).starting ≡ s.starting
key_starting s key None = refl
key_starting s key (Some b) = refl

made_starting : (s : Standing) (move : Move) (begun : Option Begun) → (made s move begun).starting ≡ s.starting
made_starting s move None = refl
made_starting s move (Some b) = refl

came_starting : (s : Standing) (came : Found) → (sought s came).starting ≡ s.starting
came_starting s (Chosen key) = key_starting s key s.begun
came_starting s (AsksConsent serial) = refl
came_starting s AsksKey = refl
came_starting s Denied = refl
came_starting s NoneServes = refl
came_starting s (Offered list) = made_starting s _ s.begun
came_starting s (Picked place) = made_starting s _ s.begun

if_starting : (wanted : Bool) (s : Standing) (came : Found) → (sought_if wanted s came).starting ≡ s.starting
if_starting true s came = came_starting s came
if_starting false s came = refl

pub sought_starting : (s : Standing) (p : Phase) (came : Found) → (then_stands s p (Sought came)).starting ≡ s.starting
sought_starting s Seeking came = if_starting (is_for (need_in s.begun) came) s came
sought_starting s Resting came = refl
sought_starting s (Waiting request) came = refl
sought_starting s (OnConfirm serial) came = refl
sought_starting s OnNeedkey came = refl
sought_starting s OnServer came = refl
sought_starting s (Kept answer) came = refl

-- ---- what its user answers changes nothing of what was begun

abbrev pub SameBegun : Call → Type 0
SameBegun call = (s : Standing) (p : Phase) → (then_stands s p call).begun ≡ s.begun

pub consented_begun : (agrees : Bool) → SameBegun (Consented agrees)
consented_begun agrees s Resting = refl
consented_begun agrees s (Waiting request) = refl
consented_begun agrees s Seeking = refl
consented_begun agrees s (OnConfirm serial) = refl
consented_begun agrees s OnNeedkey = refl
consented_begun agrees s OnServer = refl
consented_begun agrees s (Kept answer) = refl

pub told_begun : SameBegun KeyTold
told_begun s Resting = refl
told_begun s (Waiting request) = refl
told_begun s Seeking = refl
told_begun s (OnConfirm serial) = refl
told_begun s OnNeedkey = refl
told_begun s OnServer = refl
told_begun s (Kept answer) = refl

-- one that needs a key isn't at its end
pub needs_quiet : (s : Standing) → IsKey (need_in s.begun) → is_end (outcome_of s) ≡ false
needs_quiet s key = by_end (is_end (outcome_of s)) refl
  where
    by_end : (b : Bool) → is_end (outcome_of s) ≡ b → b ≡ false
    by_end true over = absurd (subst (λ (n : Need). IsKey n) (over_needs s over) key)
    by_end false over = refl

-- ---- what brings it to no end

abbrev is_over_in : Standing → Phase → Bool
is_over_in s p = is_end (elim s.starting [ true ↦ outcome_unless (waits_for_user p) s.begun | false ↦ option_map (λ b. ends b.start b.moves) s.begun ])

unwaiting : (starting : Bool) (begun : Option Begun) → is_end (option_map (λ b. ends b.start b.moves) begun) ≡ is_end (elim starting [ true ↦ outcome_unless false begun | false ↦ option_map (λ b. ends b.start b.moves) begun ])
unwaiting true begun = refl
unwaiting false begun = refl

stored_in : (s : Standing) (p : Phase) (request : RpcRequest) → is_over_in s p ≡ is_over_in s s.phase → is_end (outcome_of (then_stands s p (Stored request))) ≡ is_over_in s p
stored_in s Resting request e = unwaiting s.starting s.begun
stored_in s (Waiting asked) request e = sym e
stored_in s Seeking request e = sym e
stored_in s (OnConfirm serial) request e = sym e
stored_in s OnNeedkey request e = sym e
stored_in s OnServer request e = sym e
stored_in s (Kept answer) request e = sym e

pub stored_alike : (s : Standing) (request : RpcRequest) → is_end (outcome_of (then_stands s s.phase (Stored request))) ≡ is_end (outcome_of s)
stored_alike s request = stored_in s s.phase request refl

took_in : (s : Standing) (p : Phase) → is_over_in s p ≡ is_over_in s s.phase → is_end (outcome_of (then_stands s p Took)) ≡ is_over_in s p
took_in s (Kept answer) e = refl
took_in s Resting e = sym e
took_in s (Waiting request) e = sym e
took_in s Seeking e = sym e
took_in s (OnConfirm serial) e = sym e
took_in s OnNeedkey e = sym e
took_in s OnServer e = sym e

pub took_alike : (s : Standing) → is_end (outcome_of (then_stands s s.phase Took)) ≡ is_end (outcome_of s)
took_alike s = took_in s s.phase refl
