-- Where no fid ever came to name a file of lines, nobody has one open, no search asks a user, and nobody waits for a reply.
use Rattle.std.proofs.Common.{◌≡◌, ℕ, List, [], ◌∷◌, ◌++◌, drop, Bool, true, false, cond, eqb, ◌&&◌, not, Option, Some, None, refl, sym, ap, subst, ◌∙◌, map}
use Rattle.std.specs.List.{list_all}
use Rattle.std.proofs.lemmas.Bool.{and_from, and_parts, not-true}
use Rattle.file_tree.specs.declared.tree.Node.{Node}
use Rattle.file_tree.specs.declared.tree.Node.TheVariants.{Root, Factotum, Rpc, Ctl, Confirm, Needkey, Proto, Log}
use Rattle.file_tree.specs.declared.tree.FidState.{FidState}
use Rattle.file_tree.specs.Tree.{file}
use Rattle.file_tree.specs.Calls.{at_rest, attached, node_of, opened}
use Rattle.key_lists.specs.Lists.{KeyEntry}
use Rattle.side_files.specs.declared.line.PromptKind.{PromptKind}
use Rattle.side_files.specs.declared.line.PromptKind.TheVariants as k
use Rattle.side_files.specs.declared.prompt.Prompt.{Prompt}
use Rattle.side_files.specs.declared.prompt.Asker.{Asker}
use Rattle.side_files.specs.Askers.{without_asked, without_conv, without_tag}
use Rattle.side_files.specs.Calls as side
use Rattle.side_files.specs.Questions as asked
use Rattle.talks.specs.Calls as calls
use Rattle.agent_history.specs.Deeds.{Deed, OfFids, OfKeys, OfReplies, OfConnection, OfTalk, Raised, HandedOut, OfPrompts, OfLog, DropTaken, Swept, Halted, Versioned, Attached, Walked, Opened, Listed, Browsed, Clunked, Entered, Hung, fid_of, holder_of, names, without}
use Rattle.agent_history.specs.SideFiles.{askers, is_line_file, is_of, kind_at, prompt_calls}
use Rattle.agent_laws.specs.Laws.{AllFollow, AllSearched}
use Rattle.agent_laws.proofs.ClosedLaws.{none_asks_consent, none_asks_key}
use Rattle.driven_agents.specs.Quiet.{NamesNoLines, leads_away}

-- ---- fids

abbrev pub Plain : Option FidState → Type 0
Plain o = is_line_file (node_of o) ≡ false

either_plain : (b : Bool) (one other : Option FidState) → Plain one → Plain other → Plain (cond b one other)
either_plain true one other p q = p
either_plain false one other p q = q

opened_plain : (mode : ℕ) (o : Option FidState) → Plain o → Plain (opened mode o)
opened_plain mode None p = p
opened_plain mode (Some state) p = p

behind : (deed : Deed) (done : List Deed) → NamesNoLines (deed ∷ done) → NamesNoLines done
behind deed done e = (and_parts (leads_away deed) (list_all leads_away done) e).1

pub fid_plain : (done : List Deed) (conn fid : ℕ) → NamesNoLines done → Plain (fid_of done conn fid)
fid_plain [] conn fid e = refl
fid_plain (OfFids at (Versioned msize) ∷ done) conn fid e = either_plain (eqb at conn) None (fid_of done conn fid) refl (fid_plain done conn fid e)
fid_plain (OfFids at (Attached f) ∷ done) conn fid e = either_plain (eqb at conn && eqb f fid) attached (fid_of done conn fid) refl (fid_plain done conn fid e)
fid_plain (OfFids at (Walked f node) ∷ done) conn fid e =
    let parts = and_parts (not (is_line_file node)) (list_all leads_away done) e in
    either_plain (eqb at conn && eqb f fid) (Some (at_rest node)) (fid_of done conn fid) (not-true (is_line_file node) parts.0) (fid_plain done conn fid parts.1)
fid_plain (OfFids at (Opened f mode) ∷ done) conn fid e = either_plain (eqb at conn && eqb f fid) (opened mode (fid_of done conn fid)) (fid_of done conn fid) (opened_plain mode (fid_of done conn fid) (fid_plain done conn fid e)) (fid_plain done conn fid e)
fid_plain (OfFids at (Listed f) ∷ done) conn fid e = fid_plain done conn fid e
fid_plain (OfFids at (Browsed f next) ∷ done) conn fid e = fid_plain done conn fid e
fid_plain (OfFids at (Clunked f) ∷ done) conn fid e = either_plain (eqb at conn && eqb f fid) None (fid_of done conn fid) refl (fid_plain done conn fid e)
fid_plain (OfConnection at Entered ∷ done) conn fid e = fid_plain done conn fid e
fid_plain (OfConnection at Hung ∷ done) conn fid e = either_plain (eqb at conn) None (fid_of done conn fid) refl (fid_plain done conn fid e)
fid_plain (OfKeys at deed ∷ done) conn fid e = fid_plain done conn fid e
fid_plain (OfReplies at deed ∷ done) conn fid e = fid_plain done conn fid e
fid_plain (OfTalk conv call ∷ done) conn fid e = fid_plain done conn fid e
fid_plain (OfPrompts kind call ∷ done) conn fid e = fid_plain done conn fid e
fid_plain (OfLog call ∷ done) conn fid e = fid_plain done conn fid e
fid_plain (Raised conv ∷ done) conn fid e = fid_plain done conn fid e
fid_plain (HandedOut ∷ done) conn fid e = fid_plain done conn fid e
fid_plain (DropTaken ∷ done) conn fid e = fid_plain done conn fid e
fid_plain (Swept ∷ done) conn fid e = fid_plain done conn fid e
fid_plain (Halted ∷ done) conn fid e = refl

pub no_kind : (node : Node) → is_line_file node ≡ false → kind_at node ≡ None
no_kind Root plain = refl
no_kind Factotum plain = refl
no_kind Rpc plain = refl
no_kind Ctl plain = refl
no_kind Proto plain = refl
no_kind Confirm plain = absurd cc
no_kind Needkey plain = absurd cc
no_kind Log plain = absurd cc

-- ---- who has such a file open

paths_apart : (node other : Node) → is_line_file node ≡ true → is_line_file other ≡ false → eqb (file other).path (file node).path ≡ false
paths_apart Confirm Root line plain = refl
paths_apart Confirm Factotum line plain = refl
paths_apart Confirm Rpc line plain = refl
paths_apart Confirm Ctl line plain = refl
paths_apart Confirm Proto line plain = refl
paths_apart Confirm Confirm line plain = absurd cc
paths_apart Confirm Needkey line plain = absurd cc
paths_apart Confirm Log line plain = absurd cc
paths_apart Needkey Root line plain = refl
paths_apart Needkey Factotum line plain = refl
paths_apart Needkey Rpc line plain = refl
paths_apart Needkey Ctl line plain = refl
paths_apart Needkey Proto line plain = refl
paths_apart Needkey Confirm line plain = absurd cc
paths_apart Needkey Needkey line plain = absurd cc
paths_apart Needkey Log line plain = absurd cc
paths_apart Log Root line plain = refl
paths_apart Log Factotum line plain = refl
paths_apart Log Rpc line plain = refl
paths_apart Log Ctl line plain = refl
paths_apart Log Proto line plain = refl
paths_apart Log Confirm line plain = absurd cc
paths_apart Log Needkey line plain = absurd cc
paths_apart Log Log line plain = absurd cc
paths_apart Root other line plain = absurd cc
paths_apart Factotum other line plain = absurd cc
paths_apart Rpc other line plain = absurd cc
paths_apart Ctl other line plain = absurd cc
paths_apart Proto other line plain = absurd cc

names_other : (node : Node) → is_line_file node ≡ true → (o : Option FidState) → Plain o → names node o ≡ false
names_other node line None plain = refl
names_other node line (Some state) plain = paths_apart node state.node line plain

pub holder_none : (done : List Deed) (node : Node) → is_line_file node ≡ true → NamesNoLines done → holder_of done node ≡ None
holder_none [] node line e = refl
holder_none (OfFids at (Opened f mode) ∷ done) node line e = ap (λ b. cond b (Some (at, f)) (holder_of done node)) (names_other node line (fid_of done at f) (fid_plain done at f e)) ∙ holder_none done node line e
holder_none (OfFids at (Versioned msize) ∷ done) node line e = ap (without (λ holder. eqb holder.0 at)) (holder_none done node line e)
holder_none (OfFids at (Clunked f) ∷ done) node line e = ap (without (λ holder. eqb holder.0 at && eqb holder.1 f)) (holder_none done node line e)
holder_none (OfFids at (Attached f) ∷ done) node line e = holder_none done node line e
holder_none (OfFids at (Walked f other) ∷ done) node line e = holder_none done node line (and_parts (not (is_line_file other)) (list_all leads_away done) e).1
holder_none (OfFids at (Listed f) ∷ done) node line e = holder_none done node line e
holder_none (OfFids at (Browsed f next) ∷ done) node line e = holder_none done node line e
holder_none (OfConnection at Entered ∷ done) node line e = holder_none done node line e
holder_none (OfConnection at Hung ∷ done) node line e = ap (without (λ holder. eqb holder.0 at)) (holder_none done node line e)
holder_none (OfKeys at deed ∷ done) node line e = holder_none done node line e
holder_none (OfReplies at deed ∷ done) node line e = holder_none done node line e
holder_none (OfTalk conv call ∷ done) node line e = holder_none done node line e
holder_none (OfPrompts kind call ∷ done) node line e = holder_none done node line e
holder_none (OfLog call ∷ done) node line e = holder_none done node line e
holder_none (Raised conv ∷ done) node line e = holder_none done node line e
holder_none (HandedOut ∷ done) node line e = holder_none done node line e
holder_none (DropTaken ∷ done) node line e = holder_none done node line e
holder_none (Swept ∷ done) node line e = holder_none done node line e
holder_none (Halted ∷ done) node line e = refl

-- ---- who waits for a reply

-- nobody asked
abbrev pub is_no_question : side.Call → Bool
is_no_question (side.Asked conv about) = false
is_no_question call = true

abbrev pub NoneAsked : List side.Call → Type 0
NoneAsked all = list_all is_no_question all ≡ true

pub record IsEmpty (q : asked.Questions) : Type 0 where
  pub opened : q.opened ≡ []
  pub unread : q.unread ≡ []

read_empty : (o : List Asker) (u : List Prompt) → o ≡ [] → u ≡ [] → o ++ asked.opens u ≡ []
read_empty o u e f = ap (λ x. x ++ asked.opens u) e ∙ ap asked.opens f

none_waits : (kind : PromptKind) (all : List side.Call) → NoneAsked all → IsEmpty (side.after kind all)
none_waits kind [] e = record { opened = refl; unread = refl }
none_waits kind (side.Asked conv about ∷ all) e = absurd cc
none_waits kind (side.Read ∷ all) e =
    let q = none_waits kind all e in
    record { opened = read_empty (side.after kind all).opened (side.after kind all).unread q.opened q.unread; unread = ap (drop 1) q.unread }
none_waits kind (side.Replied tag ∷ all) e = let q = none_waits kind all e in record { opened = ap (without_tag tag) q.opened; unread = q.unread }
none_waits kind (side.Withdrawn conv ∷ all) e = let q = none_waits kind all e in record { opened = ap (without_conv conv) q.opened; unread = ap (without_asked conv) q.unread }

nobody : (q : asked.Questions) → IsEmpty q → map (λ a. a.conv) (asked.standing q) ≡ []
nobody q e = ap (λ x. map (λ a. a.conv) (x ++ map asked.asker q.unread)) e.opened ∙ ap (λ x. map (λ a. a.conv) (map asked.asker x)) e.unread

pub nobody_waits : (done : List Deed) (kind : PromptKind) → NoneAsked (prompt_calls done kind) → askers done kind ≡ []
nobody_waits done kind e = nobody (side.after kind (prompt_calls done kind)) (none_waits kind (prompt_calls done kind) e)

pub one_call : (b : Bool) (call : side.Call) (all : List side.Call) → is_no_question call ≡ true → NoneAsked all → NoneAsked (cond b (call ∷ all) all)
one_call true call all is e = and_from (is_no_question call) (list_all is_no_question all) is e
one_call false call all is e = e

consent_in : (done earlier : List Deed) (conv : ℕ) (key : KeyEntry) → done ≡ OfTalk conv (calls.Sought (calls.AsksConsent key)) ∷ earlier → AllSearched done → NamesNoLines done → ⊥
consent_in done earlier conv key is searched e =
    let first = subst AllSearched is searched in
    none_asks_consent earlier conv key (holder_none earlier Confirm refl (subst NamesNoLines is e)) (sym first.0)

key_in : (done earlier : List Deed) (conv : ℕ) → done ≡ OfTalk conv (calls.Sought calls.AsksKey) ∷ earlier → AllSearched done → NamesNoLines done → ⊥
key_in done earlier conv is searched e =
    let first = subst AllSearched is searched in
    none_asks_key earlier conv (holder_none earlier Needkey refl (subst NamesNoLines is e)) (sym first.0)

searched_behind : (deed : Deed) (done : List Deed) → AllSearched (deed ∷ done) → AllSearched done
searched_behind (OfTalk conv (calls.Sought found)) done h = h.1
searched_behind (OfTalk conv (calls.Heard bytes)) done h = h
searched_behind (OfTalk conv calls.Unheard) done h = h
searched_behind (OfTalk conv calls.Roomless) done h = h
searched_behind (OfTalk conv (calls.Stored request)) done h = h
searched_behind (OfTalk conv (calls.CarriedOut word)) done h = h
searched_behind (OfTalk conv (calls.Consented agrees)) done h = h
searched_behind (OfTalk conv calls.KeyTold) done h = h
searched_behind (OfTalk conv calls.Shut) done h = h
searched_behind (OfTalk conv calls.Took) done h = h
searched_behind (OfFids at deed) done h = h
searched_behind (OfKeys at deed) done h = h
searched_behind (OfReplies at deed) done h = h
searched_behind (OfConnection at deed) done h = h
searched_behind (Raised conv) done h = h
searched_behind HandedOut done h = h
searched_behind DropTaken done h = h
searched_behind (OfPrompts about doing) done h = h
searched_behind (OfLog doing) done h = h
searched_behind Swept done h = h
searched_behind Halted done h = h

pub none_asked : (done : List Deed) → AllFollow done → AllSearched done → NamesNoLines done → (kind : PromptKind) → NoneAsked (prompt_calls done kind)
none_asked [] follows searched e kind = refl
none_asked (OfPrompts k.Confirm (side.Asked conv text) ∷ done) follows searched e kind = absurd (consent_in done follows.0.1 conv follows.0.0 follows.0.2 searched e)
none_asked (OfPrompts k.Needkey (side.Asked conv text) ∷ done) follows searched e kind = absurd (key_in done follows.0.0 conv follows.0.1 searched e)
none_asked (OfPrompts of side.Read ∷ done) follows searched e kind = one_call (is_of of kind) side.Read (prompt_calls done kind) refl (none_asked done follows searched e kind)
none_asked (OfPrompts of (side.Replied tag) ∷ done) follows searched e kind = one_call (is_of of kind) (side.Replied tag) (prompt_calls done kind) refl (none_asked done follows searched e kind)
none_asked (OfPrompts of (side.Withdrawn conv) ∷ done) follows searched e kind = one_call (is_of of kind) (side.Withdrawn conv) (prompt_calls done kind) refl (none_asked done follows searched e kind)
none_asked (OfFids at deed ∷ done) follows searched e kind = none_asked done follows searched (behind (OfFids at deed) done e) kind
none_asked (OfTalk conv call ∷ done) follows searched e kind = none_asked done follows (searched_behind (OfTalk conv call) done searched) e kind
none_asked (OfKeys at deed ∷ done) follows searched e kind = none_asked done follows searched e kind
none_asked (OfReplies at deed ∷ done) follows searched e kind = none_asked done follows searched e kind
none_asked (OfConnection at deed ∷ done) follows searched e kind = none_asked done follows searched e kind
none_asked (OfLog call ∷ done) follows searched e kind = none_asked done follows searched e kind
none_asked (Raised conv ∷ done) follows searched e kind = none_asked done follows searched e kind
none_asked (HandedOut ∷ done) follows searched e kind = none_asked done follows searched e kind
none_asked (DropTaken ∷ done) follows searched e kind = none_asked done follows searched e kind
none_asked (Swept ∷ done) follows searched e kind = none_asked done follows searched e kind
none_asked (Halted ∷ done) follows searched e kind = refl
