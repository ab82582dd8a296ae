-- What a conversation was started with may start one.
use Rattle.std.proofs.Common.{◌≡◌, ◌≤◌, ℕ, List, [], ◌∷◌, length, nat_le, Option, Some, None, Result, Ok, Err, Bool, true, false, if◌then◌else◌, refl, subst}
use Rattle.std.proofs.lemmas.Bool.{leb-true}
use Rattle.std.proofs.lemmas.Option.{cond_some}
use Rattle.attr_tuples.specs.declared.attr.Attr.{Attr}
use Rattle.attr_tuples.specs.Attributes.{is_tuple}
use Rattle.attr_tuples.specs.declared.fault.TupleFault.{TupleFault}
use Rattle.attr_tuples.specs.Grammar.{tuple_of}
use Rattle.attr_tuples.proofs.ToldLemmas.{reads_read}
use Rattle.key_lists.specs.CtlLines.{few_of, most_attrs}
use Rattle.key_lists.specs.Lists.{KeyEntry}
use Rattle.roles.specs.declared.answer.StartFault.{StartFault}
use Rattle.roles.specs.Talks.{Call as Move, heard, offered, picked, roomless, unheard}
use Rattle.conversations.proofs.TemplateLemmas.{few_fit}
use Rattle.talks.specs.Protocols.{refuses}
use Rattle.talks.specs.Requests.{RpcRequest}
use Rattle.talks.specs.Requests as rpc
use Rattle.talks.specs.Calls.{Call, Found, Chosen, AsksConsent, AsksKey, Denied, NoneServes, Offered, Picked, Stored, CarriedOut, Sought, Consented, KeyTold, Shut, Heard, Unheard, Roomless, Took}
use Rattle.talks.specs.Standings.{Begun, Phase, Resting, Waiting, Seeking, OnConfirm, OnNeedkey, OnServer, Kept, Standing, begin_once, carried_out, if_begun, is_for, made, need_in, sought, sought_if, standing, start_by, started, taken_back, then_stands, with_key}
use Rattle.world_promises.specs.Begun.{BegunWith, MayStart, StartsWell}
use Rattle.world_promises.specs.Telling.{Searches, rests, finds}
use Rattle.roles.specs.Starts.{Start, start_with}

-- ---- a template of few attributes

abbrev few_by : Result (List Attr) TupleFault → Option (List Attr)
few_by r = elim r [ Ok t ↦ if nat_le (length t) most_attrs then Some t else None | Err fault ↦ None ]

few_parts : (text : List ℕ) (t : List Attr) (r : Result (List Attr) TupleFault) → tuple_of text ≡ r → few_by r ≡ Some t → (is_tuple t ≡ true) × (length t ≤ 32)
few_parts text t (Err fault) is some = cc some
few_parts text t (Ok u) is some =
    let parts = cond_some (nat_le (length u) most_attrs) u t some in
    (subst (λ x. is_tuple x ≡ true) parts.1 (reads_read text u is).valid, subst (λ x. length x ≤ 32) parts.1 (leb-true (length u) 32 parts.0))

may_start : (text : List ℕ) (t : List Attr) → few_of text ≡ Some t → refuses t ≡ None → MayStart t
may_start text t some none =
    let parts = few_parts text t (tuple_of text) refl some in
    record { tuple = parts.0; fits = few_fit t parts.1; starts = none }

-- ---- a start

-- a start that comes behind its tests is such
abbrev pub IsNew : (Start → Type 0) → List ℕ → RpcRequest → Type 0
IsNew P word request = (text : List ℕ) (t : List Attr) → request ≡ rpc.starts text → few_of text ≡ Some t → refuses t ≡ None → P (start_with t word)

by_refusal : (P : Start → Type 0) (s : Standing) (word text : List ℕ) (t : List Attr) (fault : Option StartFault) → IsNew P word (rpc.starts text) → few_of text ≡ Some t → refuses t ≡ fault → BegunWith P s.begun → BegunWith P (started s word t fault).begun
by_refusal P s word text t (Some fault) new some is so = so
by_refusal P s word text t None new some is so = new text t refl some is

by_text : (P : Start → Type 0) (s : Standing) (word text : List ℕ) (o : Option (List Attr)) → IsNew P word (rpc.starts text) → few_of text ≡ o → BegunWith P s.begun → BegunWith P (start_by s word o).begun
by_text P s word text None new is so = so
by_text P s word text (Some t) new is so = by_refusal P s word text t (refuses t) new is refl so

once : (P : Start → Type 0) (s : Standing) (word text : List ℕ) (o : Option Begun) → IsNew P word (rpc.starts text) → BegunWith P s.begun → BegunWith P (begin_once s word text o).begun
once P s word text None new so = by_text P s word text (few_of text) new refl so
once P s word text (Some b) new so = so

-- ---- what else is met

-- a move, where something was started
moved_of : (P : Start → Type 0) (s : Standing) (o : Option Begun) (next : Begun → Standing) → ((b : Begun) → P b.start → BegunWith P (next b).begun) → BegunWith P s.begun → BegunWith P o → BegunWith P (if_begun s o next).begun
moved_of P s None next goes so mine = so
moved_of P s (Some b) next goes so mine = goes b mine

pub carried_of : (P : Start → Type 0) (s : Standing) (word : List ℕ) (request : RpcRequest) → IsNew P word request → BegunWith P s.begun → BegunWith P (carried_out s word request).begun
carried_of P s word (rpc.starts text) new so = once P s word text s.begun new so
carried_of P s word rpc.reads new so = moved_of P s s.begun _ (λ b mine. mine) so so
carried_of P s word (rpc.writes m) new so = moved_of P s s.begun _ (λ b mine. mine) so so
carried_of P s word rpc.asks_info new so = so
carried_of P s word rpc.asks_attributes new so = moved_of P s s.begun _ (λ b mine. so) so so

pub made_of : (P : Start → Type 0) (s : Standing) (move : Move) (begun : Option Begun) → BegunWith P s.begun → BegunWith P begun → BegunWith P (made s move begun).begun
made_of P s move None so mine = so
made_of P s move (Some b) so mine = mine

key_of : (P : Start → Type 0) (s : Standing) (key : KeyEntry) (begun : Option Begun) → BegunWith P s.begun → BegunWith P begun → BegunWith P (with_key s key begun).begun
key_of P s key None so mine = so
key_of P s key (Some b) so mine = mine

back_of : (P : Start → Type 0) (starting : Bool) (begun : Option Begun) → BegunWith P begun → BegunWith P (taken_back starting begun)
back_of P true None so = tt
back_of P false None so = tt
back_of P true (Some b) so = tt
back_of P false (Some b) so = so

sought_of : (P : Start → Type 0) (s : Standing) (came : Found) → BegunWith P s.begun → BegunWith P (sought s came).begun
sought_of P s (Chosen key) so = key_of P s key s.begun so so
sought_of P s (AsksConsent key) so = so
sought_of P s AsksKey so = so
sought_of P s Denied so = back_of P s.starting s.begun so
sought_of P s NoneServes so = back_of P s.starting s.begun so
sought_of P s (Offered list) so = made_of P s (offered list) s.begun so so
sought_of P s (Picked place) so = made_of P s (picked place) s.begun so so

-- searches change nothing of it
pub searched_of : (P : Start → Type 0) (s now : Standing) → Searches s now → BegunWith P s.begun → BegunWith P now.begun
searched_of P s now (rests resting) so = so
searched_of P s now (finds came seeks is nobody later) so = searched_of P (sought s came) now later (sought_of P s came so)

found_of : (P : Start → Type 0) (b : Bool) (s : Standing) (came : Found) → BegunWith P s.begun → BegunWith P (sought_if b s came).begun
found_of P true s came so = sought_of P s came so
found_of P false s came so = so

abbrev Startable : Start → Type 0
Startable start = MayStart start.template

new_start : (word : List ℕ) (request : RpcRequest) → IsNew Startable word request
new_start word request text t is some none = may_start text t some none

step_well : (s : Standing) (phase : Phase) (call : Call) → StartsWell s.begun → StartsWell (then_stands s phase call).begun
step_well s Resting (Stored asked) so = so
step_well s Resting (CarriedOut word) so = so
step_well s Resting (Sought came) so = so
step_well s Resting (Consented agrees) so = so
step_well s Resting KeyTold so = so
step_well s Resting Shut so = so
step_well s Resting (Heard bytes) so = so
step_well s Resting Unheard so = so
step_well s Resting Roomless so = so
step_well s Resting Took so = so
step_well s (Waiting request) (Stored asked) so = so
step_well s (Waiting request) (CarriedOut word) so = carried_of Startable s word request (new_start word request) so
step_well s (Waiting request) (Sought came) so = so
step_well s (Waiting request) (Consented agrees) so = so
step_well s (Waiting request) KeyTold so = so
step_well s (Waiting request) Shut so = so
step_well s (Waiting request) (Heard bytes) so = so
step_well s (Waiting request) Unheard so = so
step_well s (Waiting request) Roomless so = so
step_well s (Waiting request) Took so = so
step_well s Seeking (Stored asked) so = so
step_well s Seeking (CarriedOut word) so = so
step_well s Seeking (Sought came) so = found_of Startable (is_for (need_in s.begun) came) s came so
step_well s Seeking (Consented agrees) so = so
step_well s Seeking KeyTold so = so
step_well s Seeking Shut so = so
step_well s Seeking (Heard bytes) so = so
step_well s Seeking Unheard so = so
step_well s Seeking Roomless so = so
step_well s Seeking Took so = so
step_well s (OnConfirm serial) (Stored asked) so = so
step_well s (OnConfirm serial) (CarriedOut word) so = so
step_well s (OnConfirm serial) (Sought came) so = so
step_well s (OnConfirm serial) (Consented agrees) so = so
step_well s (OnConfirm serial) KeyTold so = so
step_well s (OnConfirm serial) Shut so = back_of Startable s.starting s.begun so
step_well s (OnConfirm serial) (Heard bytes) so = so
step_well s (OnConfirm serial) Unheard so = so
step_well s (OnConfirm serial) Roomless so = so
step_well s (OnConfirm serial) Took so = so
step_well s OnNeedkey (Stored asked) so = so
step_well s OnNeedkey (CarriedOut word) so = so
step_well s OnNeedkey (Sought came) so = so
step_well s OnNeedkey (Consented agrees) so = so
step_well s OnNeedkey KeyTold so = so
step_well s OnNeedkey Shut so = back_of Startable s.starting s.begun so
step_well s OnNeedkey (Heard bytes) so = so
step_well s OnNeedkey Unheard so = so
step_well s OnNeedkey Roomless so = so
step_well s OnNeedkey Took so = so
step_well s OnServer (Stored asked) so = so
step_well s OnServer (CarriedOut word) so = so
step_well s OnServer (Sought came) so = so
step_well s OnServer (Consented agrees) so = so
step_well s OnServer KeyTold so = so
step_well s OnServer Shut so = so
step_well s OnServer (Heard bytes) so = made_of Startable s (heard bytes) s.begun so so
step_well s OnServer Unheard so = made_of Startable s unheard s.begun so so
step_well s OnServer Roomless so = made_of Startable s roomless s.begun so so
step_well s OnServer Took so = so
step_well s (Kept answer) (Stored asked) so = so
step_well s (Kept answer) (CarriedOut word) so = so
step_well s (Kept answer) (Sought came) so = so
step_well s (Kept answer) (Consented agrees) so = so
step_well s (Kept answer) KeyTold so = so
step_well s (Kept answer) Shut so = so
step_well s (Kept answer) (Heard bytes) so = so
step_well s (Kept answer) Unheard so = so
step_well s (Kept answer) Roomless so = so
step_well s (Kept answer) Took so = so

pub starts_well : (talk : List Call) → StartsWell (standing talk).begun
starts_well [] = tt
starts_well (call ∷ talk) = step_well (standing talk) (standing talk).phase call (starts_well talk)
