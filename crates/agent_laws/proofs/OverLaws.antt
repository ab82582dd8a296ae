-- A conversation that has come to its end stays there, and doesn't ask the authentication server.
use Rattle.std.proofs.Common.{◌≡◌, ℕ, List, ◌∷◌, Bool, true, false, Option, Some, None, sym, ap, ◌∙◌}
use Rattle.std.specs.Prelude.{option_map}
use Rattle.roles.specs.declared.need.Need.{Need}
use Rattle.roles.specs.declared.need.Need.TheVariants.{Nothing, Exchange}
use Rattle.roles.specs.Answers.{is_sought}
use Rattle.roles.specs.Talks.{get, give, Call as Move}
use Rattle.talks.specs.Requests.{RpcRequest, starts, reads, writes, asks_info, asks_attributes}
use Rattle.talks.specs.declared.answer.RpcAnswer.TheVariants as a
use Rattle.talks.specs.Protocols.{ends, is_over, puts}
use Rattle.talks.proofs.EndLaws.{none_at_the_end, stays_at_the_end}
use Rattle.talks.specs.Answers.{attributes}
use Rattle.talks.specs.Calls as calls
use Rattle.talks.specs.Calls.{Found, Chosen, AsksConsent, AsksKey, Denied, NoneServes, Offered, Picked}
use Rattle.talks.specs.Standings.{Begun, Phase, Resting, Waiting, Seeking, OnConfirm, OnNeedkey, OnServer, Kept, Standing, answered, begin_once, carried_out, if_begun, made, make_move, need_in, outcome_of, outcome_unless, question_of, standing, then_stands, waits_for_user}
use Rattle.talks.specs.Lines.{is_end}
use Rattle.agent_laws.proofs.PutLaws.{IsAsked, Wants, waits_with_question}

-- what was begun has come to its end
abbrev pub OverIn : Option Begun → Type 0
OverIn None = ⊥
OverIn (Some b) = is_over (ends b.start b.moves) ≡ true

abbrev pub Over : Standing → Type 0
Over s = OverIn s.begun

-- it needs nothing
over_needs : (begun : Option Begun) → OverIn begun → need_in begun ≡ Nothing
over_needs None over = absurd over
over_needs (Some b) over = none_at_the_end b.start b.moves over

nothing_sought : (need : Need) → need ≡ Nothing → is_sought need ≡ true → ⊥
nothing_sought need none e = let no_way : false ≡ true = ap is_sought (sym none) ∙ e in cc

nothing_asked : (need : Need) → need ≡ Nothing → IsAsked need → ⊥
nothing_asked need none asked = let no_way : Nothing ≡ Exchange asked.0 asked.1 = sym none ∙ asked.2 in cc

over_seeks_none : (s : Standing) → Over s → is_sought (question_of s) ≡ true → ⊥
over_seeks_none s over e = nothing_sought (question_of s) (over_needs s.begun over) e

pub over_asks_none : (s : Standing) → Over s → IsAsked (question_of s) → ⊥
over_asks_none s over asked = nothing_asked (question_of s) (over_needs s.begun over) asked

-- ---- it stays there

made_over : (s : Standing) (move : Move) (begun : Option Begun) → OverIn begun → Over s → Over (made s move begun)
made_over s move None over rest = absurd over
made_over s move (Some b) over rest = stays_at_the_end b.start b.moves move over

once_over : (s : Standing) (word text : List ℕ) (begun : Option Begun) → OverIn begun → Over s → Over (begin_once s word text begun)
once_over s word text None over rest = absurd over
once_over s word text (Some b) over rest = rest

carried_over : (s : Standing) (word : List ℕ) (request : RpcRequest) → Over s → Over (carried_out s word request)
carried_over s word (starts text) over = once_over s word text s.begun over over
carried_over s word reads over = by_begun s.begun over
  where
    by_begun : (o : Option Begun) → OverIn o → Over (if_begun s o (λ b. make_move s b get (a.Got (puts b.start b.moves get))))
    by_begun None h = absurd h
    by_begun (Some b) h = stays_at_the_end b.start b.moves get h
carried_over s word (writes message) over = by_begun s.begun over
  where
    by_begun : (o : Option Begun) → OverIn o → Over (if_begun s o (λ b. make_move s b (give message) a.Ok))
    by_begun None h = absurd h
    by_begun (Some b) h = stays_at_the_end b.start b.moves (give message) h
carried_over s word asks_info over = over
carried_over s word asks_attributes over = by_begun s.begun over
  where
    by_begun : (o : Option Begun) → OverIn o → Over (if_begun s o (λ b. answered s (a.Attributes (attributes b.start.template b.key))))
    by_begun None h = absurd h
    by_begun (Some b) h = over

call_over : (s : Standing) (ph : Phase) (call : calls.Call) → Wants ph (question_of s) → Over s → Over (then_stands s ph call)
call_over s Resting (calls.Stored asked) q over = over
call_over s Resting (calls.CarriedOut word) q over = over
call_over s Resting (calls.Sought came) q over = over
call_over s Resting (calls.Consented agrees) q over = over
call_over s Resting calls.KeyTold q over = over
call_over s Resting calls.Shut q over = over
call_over s Resting (calls.Heard bytes) q over = over
call_over s Resting calls.Unheard q over = over
call_over s Resting calls.Roomless q over = over
call_over s Resting calls.Took q over = over
call_over s (Waiting request) (calls.Stored asked) q over = over
call_over s (Waiting request) (calls.CarriedOut word) q over = carried_over s word request over
call_over s (Waiting request) (calls.Sought came) q over = over
call_over s (Waiting request) (calls.Consented agrees) q over = over
call_over s (Waiting request) calls.KeyTold q over = over
call_over s (Waiting request) calls.Shut q over = over
call_over s (Waiting request) (calls.Heard bytes) q over = over
call_over s (Waiting request) calls.Unheard q over = over
call_over s (Waiting request) calls.Roomless q over = over
call_over s (Waiting request) calls.Took q over = over
call_over s Seeking (calls.Stored asked) q over = over
call_over s Seeking (calls.CarriedOut word) q over = over
call_over s Seeking (calls.Sought came) q over = absurd (over_seeks_none s over q)
call_over s Seeking (calls.Consented agrees) q over = over
call_over s Seeking calls.KeyTold q over = over
call_over s Seeking calls.Shut q over = over
call_over s Seeking (calls.Heard bytes) q over = over
call_over s Seeking calls.Unheard q over = over
call_over s Seeking calls.Roomless q over = over
call_over s Seeking calls.Took q over = over
call_over s (OnConfirm serial) (calls.Stored asked) q over = over
call_over s (OnConfirm serial) (calls.CarriedOut word) q over = over
call_over s (OnConfirm serial) (calls.Sought came) q over = over
call_over s (OnConfirm serial) (calls.Consented agrees) q over = over
call_over s (OnConfirm serial) calls.KeyTold q over = over
call_over s (OnConfirm serial) calls.Shut q over = absurd (over_seeks_none s over q)
call_over s (OnConfirm serial) (calls.Heard bytes) q over = over
call_over s (OnConfirm serial) calls.Unheard q over = over
call_over s (OnConfirm serial) calls.Roomless q over = over
call_over s (OnConfirm serial) calls.Took q over = over
call_over s OnNeedkey (calls.Stored asked) q over = over
call_over s OnNeedkey (calls.CarriedOut word) q over = over
call_over s OnNeedkey (calls.Sought came) q over = over
call_over s OnNeedkey (calls.Consented agrees) q over = over
call_over s OnNeedkey calls.KeyTold q over = over
call_over s OnNeedkey calls.Shut q over = absurd (over_seeks_none s over q)
call_over s OnNeedkey (calls.Heard bytes) q over = over
call_over s OnNeedkey calls.Unheard q over = over
call_over s OnNeedkey calls.Roomless q over = over
call_over s OnNeedkey calls.Took q over = over
call_over s OnServer (calls.Stored asked) q over = over
call_over s OnServer (calls.CarriedOut word) q over = over
call_over s OnServer (calls.Sought came) q over = over
call_over s OnServer (calls.Consented agrees) q over = over
call_over s OnServer calls.KeyTold q over = over
call_over s OnServer calls.Shut q over = over
call_over s OnServer (calls.Heard bytes) q over = absurd (over_asks_none s over q)
call_over s OnServer calls.Unheard q over = absurd (over_asks_none s over q)
call_over s OnServer calls.Roomless q over = absurd (over_asks_none s over q)
call_over s OnServer calls.Took q over = over
call_over s (Kept answer) (calls.Stored asked) q over = over
call_over s (Kept answer) (calls.CarriedOut word) q over = over
call_over s (Kept answer) (calls.Sought came) q over = over
call_over s (Kept answer) (calls.Consented agrees) q over = over
call_over s (Kept answer) calls.KeyTold q over = over
call_over s (Kept answer) calls.Shut q over = over
call_over s (Kept answer) (calls.Heard bytes) q over = over
call_over s (Kept answer) calls.Unheard q over = over
call_over s (Kept answer) calls.Roomless q over = over
call_over s (Kept answer) calls.Took q over = over

-- behind any call
pub over_more : (talk : List calls.Call) (call : calls.Call) → Over (standing talk) → Over (standing (call ∷ talk))
over_more talk call over = call_over (standing talk) (standing talk).phase call (waits_with_question talk) over

-- ---- it is there where it is told so

unless_over : (waits : Bool) (begun : Option Begun) → is_end (outcome_unless waits begun) ≡ true → OverIn begun
unless_over true begun e = absurd cc
unless_over false None e = absurd cc
unless_over false (Some b) e = e

end_is_over : (starting waits : Bool) (begun : Option Begun) → is_end (elim starting [ true ↦ outcome_unless waits begun | false ↦ option_map (λ b. ends b.start b.moves) begun ]) ≡ true → OverIn begun
end_is_over true waits begun e = unless_over waits begun e
end_is_over false waits None e = absurd cc
end_is_over false waits (Some b) e = e

pub ended_over : (s : Standing) → is_end (outcome_of s) ≡ true → Over s
ended_over s e = end_is_over s.starting (waits_for_user s.phase) s.begun e
