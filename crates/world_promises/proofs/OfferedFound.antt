-- Each list of offers that a search of a conversation finds is short.
use Rattle.std.proofs.Common.{ℕ, ◌+◌, ◌-◌, ◌≤◌, List, [], ◌∷◌, length, map, Bool, true, false, cond, eqb, ltb, Option, Some, None, sym, subst, refl, ◌≡◌, arith, length-append}
use Rattle.std.specs.List.{join_with_byte}
use Rattle.std.proofs.lemmas.Bool.{ltb-true}
use Rattle.attr_tuples.specs.declared.attr.Attr.{Attr}
use Rattle.key_lists.specs.Lists.{KeyEntry, KeyList}
use Rattle.key_lists.specs.Listing.{doms_of, each_once, fitting, most_offered, offer_of, offers, offers_text}
use Rattle.roles.specs.declared.need.Need.{Need}
use Rattle.roles.specs.declared.need.Need.TheVariants.{Nothing, Key, Offers, Pick, Exchange}
use Rattle.talks.specs.declared.said.Said.{Said}
use Rattle.talks.specs.declared.said.Asking.{Asking}
use Rattle.talks.specs.Calls.{Call, Found, Chosen, AsksConsent, AsksKey, Denied, NoneServes, Offered, Stored, CarriedOut, Sought, Consented, KeyTold, Shut, Heard, Unheard, Roomless, Took}
use Rattle.talks.specs.Searches.{first_left, found_at, found_by, is_denied, offered_by, serving}
use Rattle.talks.specs.Standings.{Standing, finds, found_for, need_in, role_name}
use Rattle.agent_history.specs.Deeds.{Deed, OfFids, OfKeys, OfReplies, OfConnection, OfTalk, Raised, HandedOut, OfPrompts, OfLog, DropTaken, Swept, Halted, keys_of}
use Rattle.agent_history.specs.Conversations.{asking, standing_of, talk}
use Rattle.agent_laws.specs.Laws.{AllSearched}

-- ---- what a search finds

joined_size : (word : List ℕ) (words : List (List ℕ)) → length (join_with_byte 32 (word ∷ words)) ≤ length word + 1 + length (join_with_byte 32 words)
joined_size word [] = omega arith
joined_size word (next ∷ words) = omega (arith, length-append word (32 ∷ join_with_byte 32 (next ∷ words)))

fitting_size : (room : ℕ) (words : List (List ℕ)) → length (join_with_byte 32 (fitting room words)) ≤ room
fitting_size room [] = omega arith
fitting_size room (word ∷ words) = by_room (ltb (length word) room) refl (fitting_size (room - (length word + 1)) words)
  where
    by_room : (b : Bool) → ltb (length word) room ≡ b → length (join_with_byte 32 (fitting (room - (length word + 1)) words)) ≤ room - (length word + 1) → length (join_with_byte 32 (cond b (word ∷ fitting (room - (length word + 1)) words) [])) ≤ room
    by_room true e more = omega (arith, joined_size word (fitting (room - (length word + 1)) words), more, ltb-true (length word) room e)
    by_room false e more = omega arith

offered_size : (template : List Attr) (role : List ℕ) (list : KeyList) → length (offered_by template role list) ≤ 1024
unfolding offers offers_text
offered_size template role list = fitting_size most_offered (map offer_of (each_once (doms_of template role list.keys)))

abbrev pub IsFound : Found → Type 0
IsFound (Offered list) = length list ≤ 1024
IsFound came = Unit {0}

either : (b : Bool) (one other : Found) → IsFound one → IsFound other → IsFound (cond b one other)
either true one other p q = p
either false one other p q = q

at_found : (said : Said) (asks : Asking) (keys : List KeyEntry) (o : Option KeyEntry) → IsFound (found_at said asks keys o)
at_found said asks keys (Some key) = either _ (AsksConsent key) (Chosen key) tt tt
at_found said asks keys None = either (is_denied said asks keys) Denied _ tt (either _ AsksKey NoneServes tt tt)

by_found : (template : List Attr) (role : List ℕ) (said : Said) (asks : Asking) (list : KeyList) → IsFound (found_by template role said asks list)
unfolding found_by
by_found template role said asks list = at_found said asks (serving template role list) (first_left said asks (serving template role list))

for_found : (need : Need) (role : List ℕ) (said : Said) (asks : Asking) (list : KeyList) → IsFound (found_for need role said asks list)
for_found (Key template) role said asks list = by_found template role said asks list
for_found (Offers template) role said asks list = offered_size template role list
for_found (Pick templates) role said asks list = tt
for_found (Exchange request shape) role said asks list = tt
for_found Nothing role said asks list = tt

finds_found : (s : Standing) (asks : Asking) (list : KeyList) → IsFound (finds s asks list)
unfolding finds
finds_found s asks list = for_found (need_in s.begun) (role_name s.begun) s.said asks list

-- ---- talks

abbrev pub IsTalked : Call → Type 0
IsTalked (Sought came) = IsFound came
IsTalked call = Unit {0}

abbrev pub AreTalked : List Call → Type 0
AreTalked [] = Unit {0}
AreTalked (call ∷ calls) = IsTalked call × AreTalked calls

own : (b : Bool) (call : Call) (calls : List Call) → IsTalked call → AreTalked calls → AreTalked (cond b (call ∷ calls) calls)
own true call calls is are = (is, are)
own false call calls is are = are

pub talked : (done : List Deed) → AllSearched done → (conv : ℕ) → AreTalked (talk done conv)
talked [] searched conv = tt
talked (OfTalk at (Sought came) ∷ done) searched conv = own (eqb at conv) (Sought came) (talk done conv) (subst IsFound (sym searched.0) (finds_found (standing_of done at) (asking done) (keys_of done))) (talked done searched.1 conv)
talked (OfTalk at (Stored request) ∷ done) searched conv = own (eqb at conv) (Stored request) (talk done conv) tt (talked done searched conv)
talked (OfTalk at (CarriedOut word) ∷ done) searched conv = own (eqb at conv) (CarriedOut word) (talk done conv) tt (talked done searched conv)
talked (OfTalk at (Consented agrees) ∷ done) searched conv = own (eqb at conv) (Consented agrees) (talk done conv) tt (talked done searched conv)
talked (OfTalk at KeyTold ∷ done) searched conv = own (eqb at conv) KeyTold (talk done conv) tt (talked done searched conv)
talked (OfTalk at Shut ∷ done) searched conv = own (eqb at conv) Shut (talk done conv) tt (talked done searched conv)
talked (OfTalk at (Heard bytes) ∷ done) searched conv = own (eqb at conv) (Heard bytes) (talk done conv) tt (talked done searched conv)
talked (OfTalk at Unheard ∷ done) searched conv = own (eqb at conv) Unheard (talk done conv) tt (talked done searched conv)
talked (OfTalk at Roomless ∷ done) searched conv = own (eqb at conv) Roomless (talk done conv) tt (talked done searched conv)
talked (OfTalk at Took ∷ done) searched conv = own (eqb at conv) Took (talk done conv) tt (talked done searched conv)
talked (OfFids at deed ∷ done) searched conv = talked done searched conv
talked (OfKeys at deed ∷ done) searched conv = talked done searched conv
talked (OfReplies at deed ∷ done) searched conv = talked done searched conv
talked (OfConnection at deed ∷ done) searched conv = talked done searched conv
talked (OfPrompts kind call ∷ done) searched conv = talked done searched conv
talked (OfLog call ∷ done) searched conv = talked done searched conv
talked (Raised other ∷ done) searched conv = talked done searched conv
talked (HandedOut ∷ done) searched conv = talked done searched conv
talked (DropTaken ∷ done) searched conv = talked done searched conv
talked (Swept ∷ done) searched conv = talked done searched conv
talked (Halted ∷ done) searched conv = talked done searched conv
