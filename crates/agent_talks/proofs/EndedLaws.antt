-- A conversation that has come to its end stays there, whatever it meets.
use Rattle.std.proofs.Common.{◌≡◌, ℕ, List, Bool, true, false, Option, Some, None, refl, sym, ap, ◌∙◌, subst}
use Rattle.std.specs.Prelude.{option_map}
use Rattle.std.proofs.lemmas.Bool.{false≢true}
use Rattle.roles.specs.declared.need.Need.{Need}
use Rattle.roles.specs.declared.need.Need.TheVariants.{Nothing}
use Rattle.roles.specs.Talks.{get, give, heard, unheard, roomless, undone, Call as Move}
use Rattle.talks.specs.Requests.{RpcRequest, starts, reads, writes, asks_info, asks_attributes}
use Rattle.talks.specs.declared.answer.RpcAnswer.{RpcAnswer}
use Rattle.talks.specs.declared.answer.RpcAnswer.TheVariants as a
use Rattle.talks.specs.Protocols.{answers, ends, is_over, puts}
use Rattle.talks.proofs.EndLaws.{none_at_the_end, stays_at_the_end}
use Rattle.talks.specs.Answers.{attributes, move_answer}
use Rattle.talks.specs.Calls.{Call, Found, Chosen, AsksConsent, AsksKey, CarriedOut, Consented, Denied, Heard, KeyTold, NoneServes, Offered, Picked, Roomless, Shut, Stored, Sought, Took, Unheard}
use Rattle.talks.specs.Lines.{is_end}
use Rattle.talks.specs.Standings.{Begun, Phase, Resting, Waiting, Seeking, OnConfirm, OnNeedkey, OnServer, Kept, Standing, answered, begin_once, carried_out, if_begun, is_for, made, make_move, moved, need_in, outcome_of, outcome_unless, phase_after, sought_if, taken_back, then_stands, waits_for_user, with_move}

-- ---- when it has

abbrev over_in : Bool → Bool → Option Begun → Bool
over_in starting waits begun = is_end (elim starting [ true ↦ outcome_unless waits begun | false ↦ option_map (λ b. ends b.start b.moves) begun ])

abbrev IsOver : Standing → Type 0
IsOver s = is_end (outcome_of s) ≡ true

abbrev role_over : Option Begun → Bool
role_over begun = is_end (option_map (λ b. ends b.start b.moves) begun)

-- then its role has
its_role : (starting waits : Bool) (begun : Option Begun) → over_in starting waits begun ≡ true → role_over begun ≡ true
its_role true true begun e = absurd (false≢true e)
its_role true false begun e = e
its_role false waits begun e = e

at_rest : (starting : Bool) (begun : Option Begun) → role_over begun ≡ true → over_in starting false begun ≡ true
at_rest true begun e = e
at_rest false begun e = e

needs_none : (begun : Option Begun) → role_over begun ≡ true → need_in begun ≡ Nothing
needs_none None e = absurd (false≢true e)
needs_none (Some b) e = none_at_the_end b.start b.moves e

-- ---- its moves

moved_over : (s : Standing) (b : Begun) (answer : RpcAnswer) → is_over (ends b.start b.moves) ≡ true → IsOver (moved s b answer)
moved_over s b answer over = subst (λ (n : Need). over_in s.starting (waits_for_user (phase_after n answer)) (Some b) ≡ true) (sym (none_at_the_end b.start b.moves over)) (at_rest s.starting (Some b) over)

move_over : (s : Standing) (b : Begun) (move : Move) (well : RpcAnswer) → is_over (ends b.start b.moves) ≡ true → IsOver (make_move s b move well)
move_over s b move well over = moved_over s (with_move b move) (move_answer well b.key (answers b.start b.moves move)) (stays_at_the_end b.start b.moves move over)

made_over : (s : Standing) (move : Move) (begun : Option Begun) → role_over begun ≡ true → IsOver (made s move begun)
made_over s move None over = absurd (false≢true over)
made_over s move (Some b) over = move_over s b move a.Ok over

-- ---- a request is carried out

once_over : (s : Standing) (word text : List ℕ) (begun : Option Begun) → role_over begun ≡ true → role_over s.begun ≡ true → IsOver (begin_once s word text begun)
once_over s word text None e over = absurd (false≢true e)
once_over s word text (Some b) e over = at_rest s.starting s.begun over

read_over : (s : Standing) (begun : Option Begun) → role_over begun ≡ true → IsOver (if_begun s begun (λ b. make_move s b get (a.Got (puts b.start b.moves get))))
read_over s None e = absurd (false≢true e)
read_over s (Some b) e = move_over s b get (a.Got (puts b.start b.moves get)) e

written_over : (s : Standing) (message : List ℕ) (begun : Option Begun) → role_over begun ≡ true → IsOver (if_begun s begun (λ b. make_move s b (give message) a.Ok))
written_over s message None e = absurd (false≢true e)
written_over s message (Some b) e = move_over s b (give message) a.Ok e

shown_over : (s : Standing) (begun : Option Begun) → role_over s.begun ≡ true → IsOver (if_begun s begun (λ b. answered s (a.Attributes (attributes b.start.template b.key))))
shown_over s None over = at_rest s.starting s.begun over
shown_over s (Some b) over = at_rest s.starting s.begun over

carried_over : (s : Standing) (word : List ℕ) (request : RpcRequest) → role_over s.begun ≡ true → IsOver (carried_out s word request)
carried_over s word (starts text) over = once_over s word text s.begun over over
carried_over s word reads over = read_over s s.begun over
carried_over s word (writes message) over = written_over s message s.begun over
carried_over s word asks_info over = at_rest s.starting s.begun over
carried_over s word asks_attributes over = shown_over s s.begun over

-- ---- it is searched for what it needs, which is nothing

needs_no_search : (came : Found) → is_for Nothing came ≡ false
needs_no_search (Chosen key) = refl
needs_no_search (AsksConsent key) = refl
needs_no_search AsksKey = refl
needs_no_search Denied = refl
needs_no_search NoneServes = refl
needs_no_search (Offered list) = refl
needs_no_search (Picked place) = refl

sought_over : (s : Standing) (came : Found) → role_over s.begun ≡ true → IsOver s → IsOver (sought_if (is_for (need_in s.begun) came) s came)
sought_over s came over same = subst (λ (b : Bool). IsOver (sought_if b s came)) (sym (ap (λ (n : Need). is_for n came) (needs_none s.begun over) ∙ needs_no_search came)) same

-- ---- its user can't be asked any more

refused_over : (starting : Bool) (begun : Option Begun) → over_in starting true begun ≡ true → over_in starting false (taken_back starting begun) ≡ true
refused_over true begun e = absurd (false≢true e)
refused_over false None e = absurd (false≢true e)
refused_over false (Some b) e = stays_at_the_end b.start b.moves undone e

-- ---- whatever it meets

stays_in : (s : Standing) (p : Phase) (call : Call) → over_in s.starting (waits_for_user p) s.begun ≡ true → IsOver s → IsOver (then_stands s p call)
stays_in s Resting (Stored request) e same = its_role s.starting false s.begun e
stays_in s (Waiting request) (CarriedOut word) e same = carried_over s word request (its_role s.starting false s.begun e)
stays_in s Seeking (Sought came) e same = sought_over s came (its_role s.starting true s.begun e) same
stays_in s (OnConfirm serial) (Consented agrees) e same = e
stays_in s (OnConfirm serial) Shut e same = refused_over s.starting s.begun e
stays_in s OnNeedkey KeyTold e same = e
stays_in s OnNeedkey Shut e same = refused_over s.starting s.begun e
stays_in s OnServer (Heard bytes) e same = made_over s (heard bytes) s.begun (its_role s.starting false s.begun e)
stays_in s OnServer Unheard e same = made_over s unheard s.begun (its_role s.starting false s.begun e)
stays_in s OnServer Roomless e same = made_over s roomless s.begun (its_role s.starting false s.begun e)
stays_in s (Kept answer) Took e same = e
stays_in s p call e same = same

pub stays_over : (s : Standing) (call : Call) → is_end (outcome_of s) ≡ true → is_end (outcome_of (then_stands s s.phase call)) ≡ true
stays_over s call over = stays_in s s.phase call over over
