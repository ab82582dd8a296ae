-- A conversation stays what it was started as: whatever it meets, its template is the one by which it was started, or the one
-- that the text of its start gives, where its start is carried out.
use Rattle.std.proofs.Common.{◌≡◌, ℕ, List, Bool, true, false, Option, Some, None, refl, subst, sym}
use Rattle.std.proofs.lemmas.Bool.{false≢true}
use Rattle.attr_tuples.specs.declared.attr.Attr.{Attr}
use Rattle.key_lists.specs.Lists.{KeyEntry}
use Rattle.key_lists.specs.CtlLines.{few_of}
use Rattle.roles.specs.declared.answer.StartFault.{StartFault}
use Rattle.roles.specs.Talks.{heard, unheard, roomless, offered, picked, Call as Move}
use Rattle.talks.specs.Requests.{RpcRequest, starts, reads, writes, asks_info, asks_attributes}
use Rattle.talks.specs.Protocols.{refuses}
use Rattle.talks.specs.Calls.{Call, Found, Chosen, AsksConsent, AsksKey, CarriedOut, Consented, Denied, Heard, KeyTold, NoneServes, Offered, Picked, Roomless, Shut, Stored, Sought, Took, Unheard}
use Rattle.conversations.specs.Asking.{template_begun}
use Rattle.agent_talks.specs.Ahead.{coming_by}
use Rattle.talks.specs.Standings.{Begun, Phase, Resting, Waiting, Seeking, OnConfirm, OnNeedkey, OnServer, Kept, Standing, carried_out, is_for, made, need_in, sought, sought_if, start_by, started, taken_back, then_stands, with_key}

-- what was begun, if anything was, was begun by this template
abbrev pub IsOf : Option (List Attr) → Option Begun → Type 0
IsOf template None = Unit {0}
IsOf template (Some b) = template ≡ Some b.start.template

pub its_own : (begun : Option Begun) → IsOf (template_begun begun) begun
its_own None = tt
its_own (Some b) = refl

-- ---- its moves

made_of : (template : Option (List Attr)) (s : Standing) (move : Move) (begun : Option Begun) → IsOf template begun → IsOf template s.begun → IsOf template (made s move begun).begun
made_of template s move None is whole = whole
made_of template s move (Some b) is whole = is

taken_of : (template : Option (List Attr)) (starting : Bool) (begun : Option Begun) → IsOf template begun → IsOf template (taken_back starting begun)
taken_of template true None is = tt
taken_of template true (Some b) is = tt
taken_of template false None is = tt
taken_of template false (Some b) is = is

key_of : (template : Option (List Attr)) (s : Standing) (key : KeyEntry) (begun : Option Begun) → IsOf template begun → IsOf template s.begun → IsOf template (with_key s key begun).begun
key_of template s key None is whole = whole
key_of template s key (Some b) is whole = is

sought_of : (template : Option (List Attr)) (s : Standing) (came : Found) → IsOf template s.begun → IsOf template (sought s came).begun
sought_of template s (Chosen key) is = key_of template s key s.begun is is
sought_of template s (AsksConsent key) is = is
sought_of template s AsksKey is = is
sought_of template s Denied is = taken_of template s.starting s.begun is
sought_of template s NoneServes is = taken_of template s.starting s.begun is
sought_of template s (Offered list) is = made_of template s (offered list) s.begun is is
sought_of template s (Picked place) is = made_of template s (picked place) s.begun is is

if_sought_of : (template : Option (List Attr)) (wanted : Bool) (s : Standing) (came : Found) → IsOf template s.begun → IsOf template (sought_if wanted s came).begun
if_sought_of template true s came is = sought_of template s came is
if_sought_of template false s came is = is

-- ---- a request is carried out

abbrev with_begun : Standing → Option Begun → Standing
with_begun s begun = record { begun = begun; phase = s.phase; starting = s.starting; said = s.said }

tried_of : (s : Standing) (word : List ℕ) (template : List Attr) (fault : Option StartFault) → IsOf (Some template) (started (with_begun s None) word template fault).begun
tried_of s word template (Some fault) = tt
tried_of s word template None = refl

start_of : (s : Standing) (word : List ℕ) (template : Option (List Attr)) → IsOf template (start_by (with_begun s None) word template).begun
start_of s word None = tt
start_of s word (Some template) = tried_of s word template (refuses template)

carried_of : (s : Standing) (word : List ℕ) (request : RpcRequest) (begun : Option Begun) → IsOf (coming_by begun (Waiting request)) (carried_out (with_begun s begun) word request).begun
carried_of s word (starts text) None = start_of s word (few_of text)
carried_of s word (starts text) (Some b) = refl
carried_of s word reads None = tt
carried_of s word reads (Some b) = refl
carried_of s word (writes message) None = tt
carried_of s word (writes message) (Some b) = refl
carried_of s word asks_info begun = its_own_coming begun asks_info
  where
    its_own_coming : (begun : Option Begun) (request : RpcRequest) → IsOf (coming_by begun (Waiting request)) begun
    its_own_coming None request = tt
    its_own_coming (Some b) request = refl
carried_of s word asks_attributes None = tt
carried_of s word asks_attributes (Some b) = refl

-- ---- whatever it meets

-- a request is carried out by it
abbrev pub carries_out : Call → Bool
carries_out (CarriedOut word) = true
carries_out call = false

kept_in : (template : Option (List Attr)) (s : Standing) (p : Phase) (call : Call) → carries_out call ≡ false → IsOf template s.begun → IsOf template (then_stands s p call).begun
kept_in template s Resting (Stored request) e is = is
kept_in template s (Waiting request) (CarriedOut word) e is = absurd (false≢true (sym e))
kept_in template s Seeking (Sought came) e is = if_sought_of template (is_for (need_in s.begun) came) s came is
kept_in template s (OnConfirm serial) (Consented agrees) e is = is
kept_in template s (OnConfirm serial) Shut e is = taken_of template s.starting s.begun is
kept_in template s OnNeedkey KeyTold e is = is
kept_in template s OnNeedkey Shut e is = taken_of template s.starting s.begun is
kept_in template s OnServer (Heard bytes) e is = made_of template s (heard bytes) s.begun is is
kept_in template s OnServer Unheard e is = made_of template s unheard s.begun is is
kept_in template s OnServer Roomless e is = made_of template s roomless s.begun is is
kept_in template s (Kept answer) Took e is = is
kept_in template s p call e is = is

-- whatever was begun stays so by all but a request that is carried out
pub keeps_template : (template : Option (List Attr)) (s : Standing) (call : Call) → carries_out call ≡ false → IsOf template s.begun → IsOf template (then_stands s s.phase call).begun
keeps_template template s call e is = kept_in template s s.phase call e is

-- and by that what comes is begun
pub carries_template : (s : Standing) (word : List ℕ) (request : RpcRequest) → s.phase ≡ Waiting request → IsOf (coming_by s.begun s.phase) (then_stands s s.phase (CarriedOut word)).begun
carries_template s word request e = subst (λ (p : Phase). IsOf (coming_by s.begun p) (then_stands s p (CarriedOut word)).begun) (sym e) (carried_of s word request s.begun)
