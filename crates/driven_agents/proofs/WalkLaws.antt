-- A fid that comes to a file of the agent leaves it idle; where that isn't refused, it is at rest on rpc.
use Rattle.std.proofs.Common.{◌≡◌, ℕ, ◌<◌, List, [], ◌∷◌, Bool, true, false, cond, eqb, ◌&&◌, not, codes, Option, Some, None, refl, sym, ap, subst, ◌∙◌, arith}
use Rattle.std.specs.Prelude.{find, is_some, option_map}
use Rattle.std.specs.List.{list_all}
use Rattle.std.specs.Str.{is_utf8, chars}
use lib.Utf8.{encode}
use Rattle.std.proofs.lemmas.Bool.{and_from, eqb-true}
use Rattle.wire_base.specs.Readers.{IsString}
use Rattle.wire_base.specs.Texts.{is_text}
use Rattle.nine.specs.declared.message.TMsg.{TMsg}
use Rattle.nine.specs.declared.message.TBody.TheVariants as t
use Rattle.nine.specs.Messages.{t_fits, t_frame}
use Rattle.file_tree.specs.declared.tree.Node.{Node}
use Rattle.file_tree.specs.declared.tree.Node.TheVariants.{Rpc}
use Rattle.file_tree.specs.declared.tree.FidState.{FidState}
use Rattle.file_tree.specs.Tree.{lead_to, step}
use Rattle.file_tree.specs.Calls.{at_rest, attached, is_open, node_of}
use Rattle.agent_history.specs.Deeds.{Deed, fid_of, names}
use Rattle.agent_history.specs.SideFiles.{is_line_file}
use Rattle.agent_history.specs.Conversations.{asker, conv_of, speakers, talk}
use Rattle.agent_history.specs.Requests.{Call, after, after_frame, call_of, granted, refusal, walking}
use Rattle.agent_history.specs.Histories.{History, deeds}
use Rattle.agent_laws.proofs.ConversationLaws.{openers_speak}
use Rattle.agent_laws.proofs.MetLaws.{no_walk_fault}
use Rattle.agent_laws.proofs.KindLaws.{same_number}
use Rattle.world_history.specs.Driving.{drive, is_refused, no_word, replies_to, walks}
use Rattle.driven_agents.specs.Quiet.{NamesNoLines, leads_away}
use Rattle.driven_agents.specs.Idle.{IsCalm, IsIdle, Runs, SameSeats}
use Rattle.driven_agents.proofs.AlikeLaws.{Alike, alike_calm, alike_itself, granted_keeps}
use Rattle.driven_agents.proofs.ExactLaws.{granted_only}
use Rattle.driven_agents.proofs.FoundLemmas.{all_pass}
use Rattle.driven_agents.proofs.GrantLaws.{asker_then, calm_event, fid_then, granted_after, granted_so, opened_then, speakers_then, talk_then}
use Rattle.driven_agents.proofs.IdleLaws.{idle_behind}
use Rattle.driven_agents.proofs.RunLaws.{event_runs}
use Rattle.driven_agents.proofs.SeatLaws.{all_seated, has_seat}

-- ---- the request

abbrev pub way_to : List ℕ → List (List ℕ)
way_to file = codes "factotum" ∷ file ∷ []

abbrev pub walk_asked : ℕ → List ℕ → TMsg
walk_asked fid file = record { tag = 0; body = t.Walk 0 fid (way_to file) }

abbrev pub walk_frame : ℕ → List ℕ → List ℕ
walk_frame fid file = t_frame (walk_asked fid file)

abbrev pub walk_call : ℕ → List ℕ → Call
walk_call fid file = call_of 0 (walk_frame fid file) no_word

a_string : IsString (codes "factotum")
unfolding is_text is_utf8 chars encode
a_string = record { short = omega arith; text = refl }

pub rpc_string : IsString (codes "rpc")
unfolding is_text is_utf8 chars encode
rpc_string = record { short = omega arith; text = refl }

pub ctl_string : IsString (codes "ctl")
unfolding is_text is_utf8 chars encode
ctl_string = record { short = omega arith; text = refl }

walk_fits : (fid : ℕ) (file : List ℕ) → fid < 65535 → IsString file → t_fits (t.Walk 0 fid (way_to file))
walk_fits fid file small is = ((omega arith, omega arith), record { few = omega arith; each = (a_string, (is, tt)) })

-- ---- what it does

-- it ends at no file of lines
abbrev pub EndsAway : Option Node → Type 0
EndsAway None = Unit {0}
EndsAway (Some node) = is_line_file node ≡ false

walking_alike : (fid : ℕ) (o : Option Node) (h : History) → eqb fid 0 ≡ false → EndsAway o → NamesNoLines (deeds h) → Alike (deeds h) (walking 0 fid o (deeds h))
walking_alike fid None h off away named = alike_itself (deeds h) named
walking_alike fid (Some node) h off away named =
    let done = deeds h in
    record {
      names = and_from (not (is_line_file node)) (list_all leads_away done) (ap not away) named;
      entered = refl;
      there = refl;
      msize = refl;
      root = ap (λ b. cond b (Some (at_rest node)) (fid_of done 0 0)) off;
      speaking = refl;
      opened = refl;
      waiting = refl;
      settled = refl;
      asked = all_pass (has_seat (speakers done)) _ (all_seated h);
      phases = λ conv is. is;
    }

walk_alike : (call : Call) (fid : ℕ) (file : List ℕ) (h : History) → call.conn ≡ 0 → eqb fid 0 ≡ false → ((node : Node) → EndsAway (lead_to node (way_to file))) → NamesNoLines (deeds h) → Alike (deeds h) (after (deeds h) call (t.Walk 0 fid (way_to file)))
unfolding after
walk_alike call fid file h on off ends named =
    let done = deeds h in
    subst (λ conn. Alike done (walking conn fid (lead_to (node_of (fid_of done conn 0)) (way_to file)) done)) (sym on)
    (walking_alike fid (lead_to (node_of (fid_of done 0 0)) (way_to file)) h off (ends (node_of (fid_of done 0 0))) named)

walking_talk : (fid : ℕ) (o : Option Node) (done : List Deed) (conn conv : ℕ) → talk (walking conn fid o done) conv ≡ talk done conv
walking_talk fid None done conn conv = refl
walking_talk fid (Some node) done conn conv = refl

walk_talk : (call : Call) (fid : ℕ) (file : List ℕ) (done : List Deed) (conv : ℕ) → talk (after done call (t.Walk 0 fid (way_to file))) conv ≡ talk done conv
unfolding after
walk_talk call fid file done conv = walking_talk fid (lead_to (node_of (fid_of done call.conn 0)) (way_to file)) done call.conn conv

-- ---- behind it

pub record WalkSo (fid : ℕ) (file : List ℕ) (h : History) : Type 0 where
  pub calm : IsCalm (deeds (walks fid file ∷ h))
  pub idle : IsIdle (drive (walks fid file) h)
  pub seats : SameSeats h (drive (walks fid file) h)
  pub askers : (call : ℕ) → asker (deeds (drive (walks fid file) h)) call ≡ asker (deeds h) call
  pub talks : (conv : ℕ) → talk (deeds (drive (walks fid file) h)) conv ≡ talk (deeds h) conv

pub walk_is : (fid : ℕ) (file : List ℕ) (h : History) → IsIdle h → fid < 65535 → eqb fid 0 ≡ false → IsString file → ((node : Node) → EndsAway (lead_to node (way_to file))) → Runs (drive (walks fid file) h) → WalkSo fid file h
unfolding after_frame
walk_is fid file h idle small off is ends runs =
    let c = idle.calm in
    let done = deeds h in
    let call = walk_call fid file in
    let frame = walk_frame fid file in
    let fits = walk_fits fid file small is in
    let g = granted done call frame in
    let a : Alike done (after_frame done call frame) = granted_keeps (Alike done) done call g (alike_itself done c.names)
    (granted_only (λ body. Alike done (after done call body)) done call (walk_asked fid file) (omega arith) fits (walk_alike call fid file h refl off ends c.names)) in
    let told : (conv : ℕ) → talk (after_frame done call frame) conv ≡ talk done conv = λ conv. granted_keeps (λ d. talk d conv ≡ talk done conv) done call g refl
    (granted_only (λ body. talk (after done call body) conv ≡ talk done conv) done call (walk_asked fid file) (omega arith) fits (walk_talk call fid file done conv)) in
    let now = calm_event frame no_word h c (event_runs (walks fid file) h runs) (alike_calm done (after_frame done call frame) a c) in
    record {
      calm = now;
      idle = idle_behind (walks fid file) h now runs;
      seats = record { speakers = speakers_then frame no_word h c runs now ∙ a.speaking; opened = opened_then frame no_word h c runs now ∙ a.opened };
      askers = λ n. asker_then frame no_word h c runs now n ∙ ap (λ qs. option_map (λ q. q.conv) (find (λ q. eqb q.call n) qs)) a.asked;
      talks = λ conv. talk_then frame no_word h c runs now conv ∙ told conv;
    }

-- ---- to rpc

to_rpc : (o : Option FidState) → o ≡ attached → lead_to (node_of o) (way_to (codes "rpc")) ≡ Some Rpc
unfolding step
to_rpc o is = ap (λ o. lead_to (node_of o) (way_to (codes "rpc"))) is

-- the fid rests there
rests_on : (call : Call) (fid : ℕ) (done : List Deed) → call.conn ≡ 0 → fid_of done 0 0 ≡ attached → fid_of (after done call (t.Walk 0 fid (way_to (codes "rpc")))) 0 fid ≡ Some (at_rest Rpc)
unfolding after
rests_on call fid done on root =
    ap (λ conn. fid_of (walking conn fid (lead_to (node_of (fid_of done conn 0)) (way_to (codes "rpc"))) done) 0 fid) on
    ∙ (ap (λ o. fid_of (walking 0 fid o done) 0 fid) (to_rpc (fid_of done 0 0) root)
    ∙ ap (λ b. cond b (Some (at_rest Rpc)) (fid_of done 0 fid)) (same_number fid))

-- and had nothing open before
rested : (call : Call) (fid : ℕ) (done : List Deed) → call.conn ≡ 0 → refusal done call (t.Walk 0 fid (way_to (codes "rpc"))) ≡ None → is_open (fid_of done 0 fid) ≡ false
unfolding refusal
rested call fid done on none =
    subst (λ conn. is_open (fid_of done conn fid) ≡ false) on
    (no_walk_fault (fid_of done call.conn 0) (fid_of done call.conn fid) (eqb 0 fid) _ (way_to (codes "rpc")) (λ same. ap (fid_of done call.conn) (sym (eqb-true 0 fid same))) none)

none_open : (o : Option ℕ) → is_some o ≡ false → o ≡ None
none_open None is = refl
none_open (Some n) is = absurd cc

closed_rpc : (b c : Bool) → c ≡ false → (b && c) ≡ false
closed_rpc true c is = is
closed_rpc false c is = refl

pub record AtRpc (fid : ℕ) (h : History) : Type 0 where
  pub rests : fid_of (deeds (drive (walks fid (codes "rpc")) h)) 0 fid ≡ Some (at_rest Rpc)
  pub free : conv_of (deeds h) 0 fid ≡ None

pub at_rpc : (fid : ℕ) (h : History) → IsIdle h → fid < 65535 → IsCalm (deeds (walks fid (codes "rpc") ∷ h)) → Runs (drive (walks fid (codes "rpc")) h) → is_refused (replies_to (walks fid (codes "rpc")) h) ≡ false → AtRpc fid h
at_rpc fid h idle small now runs none =
    let done = deeds h in
    let asked = walk_asked fid (codes "rpc") in
    let call = walk_call fid (codes "rpc") in
    let g = granted_so asked no_word h (omega arith) (walk_fits fid (codes "rpc") small rpc_string) idle runs now none in
    record {
      rests = fid_then (walk_frame fid (codes "rpc")) no_word h idle.calm runs now fid ∙ (ap (λ d. fid_of d 0 fid) (granted_after asked no_word h g) ∙ rests_on call fid done refl idle.calm.root);
      free = none_open (conv_of done 0 fid) (openers_speak h 0 fid ∙ closed_rpc (names Rpc (fid_of done 0 fid)) (is_open (fid_of done 0 fid)) (rested call fid done refl g.none));
    }
