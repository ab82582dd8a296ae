-- What is seen of a conversation at the fid that has it open: whether a read of the fid waits, and which questions of it stand. What
-- its phase wants of these; and which deeds take nothing of it away.
use Rattle.std.proofs.Common.{◌≡◌, ℕ, zero, suc, List, [], ◌∷◌, length, Bool, true, false, cond, eqb, ◌&&◌, ◌||◌, not, Option, Some, None, refl, sym, ap, subst, ◌∙◌}
use Rattle.std.specs.List.{list_any}
use Rattle.std.proofs.lemmas.Bool.{or_parts}
use Rattle.nine.specs.declared.message.RBody.{RBody}
use Rattle.nine.specs.declared.message.RBody.TheVariants as r
use Rattle.file_tree.specs.declared.tree.Node.{Node}
use Rattle.file_tree.specs.declared.tree.Node.TheVariants.{Root, Factotum, Rpc, Ctl, Confirm, Needkey, Proto, Log}
use Rattle.side_files.specs.declared.line.PromptKind.{PromptKind}
use Rattle.side_files.specs.declared.line.PromptKind.TheVariants as pk
use Rattle.side_files.specs.Lines.{Found, Nothing, TooLong, First, found}
use Rattle.side_files.specs.Calls as side
use Rattle.talks.specs.Standings.{Phase, Resting, Waiting, Seeking, OnConfirm, OnNeedkey, OnServer, Kept, Standing, standing}
use Rattle.agent_history.specs.Deeds.{Deed, OfReplies, OfPrompts, OfLog, Settled, holder_of, is_debug}
use Rattle.agent_history.specs.Replies.{Wait, first_of, reader, settle_tag, settled_by, too_small, waits}
use Rattle.agent_history.specs.SideFiles.{all_served, line_read, lines_in, prompts_of, serve_first, serve_read, serve_reads, served, served_to}
use Rattle.agent_history.specs.Conversations.{conv_of, logged, opened_talks, standing_of, talk, then_logged}
use Rattle.talks.specs.Lines.{log_lines}
use Rattle.agent_laws.specs.Laws.{asks_user, has_question}
use Rattle.agent_laws.proofs.MetLaws.{is_reader}
use Rattle.agent_laws.proofs.PromptLaws.{read_same}

-- ---- what is seen, and what is wanted

pub record Seen : Type 0 where
  -- no read of the fid waits
  pub idle : Bool
  -- a question to the authentication server stands, or one to the user in a file
  pub asked : Bool
  pub confirm : Bool
  pub needkey : Bool

abbrev pub no_reads : ℕ → List Wait → Bool
no_reads fid ws = not (list_any (is_reader fid) ws)

abbrev pub seen : List Deed → ℕ → ℕ → ℕ → Seen
seen done conn fid conv = record {
  idle = no_reads fid (waits done conn);
  asked = has_question done conv;
  confirm = asks_user done pk.Confirm conv;
  needkey = asks_user done pk.Needkey conv;
}

-- what a phase wants: its question, and an answer that isn't there yet is all that a read waits for. While an event is at it, a
-- question isn't raised yet, and an answer not given yet
abbrev pub wants : Bool → Bool → Seen → Phase → Bool
wants raised given v Resting = given && v.idle
wants raised given v (Waiting request) = given && v.idle
wants raised given v Seeking = true
wants raised given v (OnConfirm serial) = v.confirm
wants raised given v OnNeedkey = v.needkey
wants raised given v OnServer = not raised || v.asked
wants raised given v (Kept answer) = not given || v.idle

-- nothing of it is taken away
pub record Grows (v w : Seen) : Type 0 where
  pub idle : v.idle ≡ true → w.idle ≡ true
  pub asked : v.asked ≡ true → w.asked ≡ true
  pub confirm : v.confirm ≡ true → w.confirm ≡ true
  pub needkey : v.needkey ≡ true → w.needkey ≡ true

and_more : (g a b : Bool) → (a ≡ true → b ≡ true) → (g && a) ≡ true → (g && b) ≡ true
and_more true a b f e = f e
and_more false a b f e = absurd cc

or_after : (g a b : Bool) → (a ≡ true → b ≡ true) → (not g || a) ≡ true → (not g || b) ≡ true
or_after true a b f e = f e
or_after false a b f e = refl

pub wants_more : (raised given : Bool) (v w : Seen) (ph : Phase) → Grows v w → wants raised given v ph ≡ true → wants raised given w ph ≡ true
wants_more raised given v w Resting up e = and_more given v.idle w.idle up.idle e
wants_more raised given v w (Waiting request) up e = and_more given v.idle w.idle up.idle e
wants_more raised given v w Seeking up e = refl
wants_more raised given v w (OnConfirm serial) up e = up.confirm e
wants_more raised given v w OnNeedkey up e = up.needkey e
wants_more raised given v w OnServer up e = or_after raised v.asked w.asked up.asked e
wants_more raised given v w (Kept answer) up e = or_after given v.idle w.idle up.idle e

-- ---- of which conversations it holds

-- each conversation that a fid has open has what its phase wants, but for one that an event is at
abbrev pub Met : ℕ → Bool → Bool → List Deed → Type 0
Met c raised given done = (conn fid conv : ℕ) (own : Bool) → eqb c conv ≡ own → conv_of done conn fid ≡ Some conv
    → wants (cond own raised true) (cond own given true) (seen done conn fid conv) (standing_of done conv).phase ≡ true

abbrev pub AllMet : List Deed → Type 0
AllMet done = (conn fid conv : ℕ) → conv_of done conn fid ≡ Some conv → wants true true (seen done conn fid conv) (standing_of done conv).phase ≡ true

pub met_of_all : (c : ℕ) (done : List Deed) → AllMet done → Met c true true done
met_of_all c done all conn fid conv true e at = all conn fid conv at
met_of_all c done all conn fid conv false e at = all conn fid conv at

pub all_of_met : (c : ℕ) (done : List Deed) → Met c true true done → AllMet done
all_of_met c done m conn fid conv at = by_own (eqb c conv) refl
  where
    by_own : (own : Bool) → eqb c conv ≡ own → wants true true (seen done conn fid conv) (standing_of done conv).phase ≡ true
    by_own true e = m conn fid conv true e at
    by_own false e = m conn fid conv false e at

-- behind some deeds all conversations met what they had met, and nothing of what is seen of one that a fid has open is gone
pub record Alike (old new : List Deed) : Type 0 where
  pub seats : (conn fid conv : ℕ) → conv_of new conn fid ≡ Some conv → conv_of old conn fid ≡ Some conv
  pub sees : (conn fid conv : ℕ) → conv_of new conn fid ≡ Some conv → Grows (seen old conn fid conv) (seen new conn fid conv)
  pub talks : (conv : ℕ) → talk new conv ≡ talk old conv
  pub opened : opened_talks new ≡ opened_talks old

same_phase : (old new : List Deed) (conv : ℕ) → talk new conv ≡ talk old conv → (standing_of old conv).phase ≡ (standing_of new conv).phase
same_phase old new conv e = ap (λ t. (standing t).phase) (sym e)

pub alike_met : (c : ℕ) (raised given : Bool) (old new : List Deed) → Alike old new → Met c raised given old → Met c raised given new
alike_met c raised given old new a m conn fid conv own e at =
    wants_more (cond own raised true) (cond own given true) (seen old conn fid conv) (seen new conn fid conv) (standing_of new conv).phase (a.sees conn fid conv at)
    (subst (λ ph. wants (cond own raised true) (cond own given true) (seen old conn fid conv) ph ≡ true) (same_phase old new conv (a.talks conv)) (m conn fid conv own e (a.seats conn fid conv at)))

pub alike_all : (old new : List Deed) → Alike old new → AllMet old → AllMet new
alike_all old new a all conn fid conv at =
    wants_more true true (seen old conn fid conv) (seen new conn fid conv) (standing_of new conv).phase (a.sees conn fid conv at)
    (subst (λ ph. wants true true (seen old conn fid conv) ph ≡ true) (same_phase old new conv (a.talks conv)) (all conn fid conv (a.seats conn fid conv at)))

pub grows_same : (v w : Seen) → v ≡ w → Grows v w
grows_same v w e = record {
  idle = λ is. ap (λ (x : Seen). x.idle) (sym e) ∙ is;
  asked = λ is. ap (λ (x : Seen). x.asked) (sym e) ∙ is;
  confirm = λ is. ap (λ (x : Seen). x.confirm) (sym e) ∙ is;
  needkey = λ is. ap (λ (x : Seen). x.needkey) (sym e) ∙ is;
}

pub alike_itself : (done : List Deed) → Alike done done
alike_itself done = record { seats = λ conn fid conv at. at; sees = λ conn fid conv at. grows_same _ _ refl; talks = λ conv. refl; opened = refl }

pub alike_then : (one two three : List Deed) → Alike one two → Alike two three → Alike one three
alike_then one two three a b = record {
  seats = λ conn fid conv at. a.seats conn fid conv (b.seats conn fid conv at);
  sees = λ conn fid conv at.
      let first = a.sees conn fid conv (b.seats conn fid conv at) in
      let second = b.sees conn fid conv at in
      record {
        idle = λ is. second.idle (first.idle is);
        asked = λ is. second.asked (first.asked is);
        confirm = λ is. second.confirm (first.confirm is);
        needkey = λ is. second.needkey (first.needkey is);
      };
  talks = λ conv. b.talks conv ∙ a.talks conv;
  opened = b.opened ∙ a.opened;
}

pub alike_either : (b : Bool) (old one other : List Deed) → Alike old one → Alike old other → Alike old (cond b one other)
alike_either true old one other p q = p
alike_either false old one other p q = q

-- ---- a read that is settled

pub settled_off : (fid : ℕ) (body : RBody) (w : Wait) → is_reader fid (settled_by body w) ≡ false
settled_off fid body w = by_reply w.reply
  where
    by_it : (b : Bool) → (b && false) ≡ false
    by_it true = refl
    by_it false = refl

    by_reply : (o : Option RBody) → is_reader fid (record { tag = w.tag; fid = w.fid; count = w.count; reply = first_of body o }) ≡ false
    by_reply None = by_it (eqb w.fid fid)
    by_reply (Some first) = by_it (eqb w.fid fid)

settle_none : (fid tag : ℕ) (body : RBody) (ws : List Wait) → list_any (is_reader fid) ws ≡ false → list_any (is_reader fid) (settle_tag tag body ws) ≡ false
settle_none fid tag body [] e = refl
settle_none fid tag body (w ∷ ws) e =
    let parts = or_parts (is_reader fid w) (list_any (is_reader fid) ws) e in
    by_tag (eqb w.tag tag) parts.0 parts.1 (settle_none fid tag body ws parts.1)
  where
    by_tag : (b : Bool) → is_reader fid w ≡ false → list_any (is_reader fid) ws ≡ false → list_any (is_reader fid) (settle_tag tag body ws) ≡ false → list_any (is_reader fid) (cond b (settled_by body w ∷ ws) (w ∷ settle_tag tag body ws)) ≡ false
    by_tag true first rest more = rw (settled_off fid body w) rest
    by_tag false first rest more = rw first more

not_true : (b : Bool) → not b ≡ true → b ≡ false
not_true true e = absurd cc
not_true false e = refl

pub idle_from : (fid : ℕ) (ws : List Wait) → list_any (is_reader fid) ws ≡ false → no_reads fid ws ≡ true
idle_from fid ws e = ap not e

pub none_from : (fid : ℕ) (ws : List Wait) → no_reads fid ws ≡ true → list_any (is_reader fid) ws ≡ false
none_from fid ws e = not_true (list_any (is_reader fid) ws) e

pub settle_idle : (b : Bool) (fid tag : ℕ) (body : RBody) (ws : List Wait) → no_reads fid ws ≡ true → no_reads fid (cond b (settle_tag tag body ws) ws) ≡ true
settle_idle true fid tag body ws e = idle_from fid (settle_tag tag body ws) (settle_none fid tag body ws (none_from fid ws e))
settle_idle false fid tag body ws e = e

settled_alike : (at tag : ℕ) (body : RBody) (done : List Deed) → Alike done (OfReplies at (Settled tag body) ∷ done)
settled_alike at tag body done = record {
  seats = λ conn fid conv is. is;
  sees = λ conn fid conv is. record { idle = settle_idle (eqb at conn) fid tag body (waits done conn); asked = λ e. e; confirm = λ e. e; needkey = λ e. e };
  talks = λ conv. refl;
  opened = refl;
}

-- ---- lines

-- the questions of a file are the same when one of them was read
read_alike : (kind : PromptKind) (done : List Deed) → Alike done (OfPrompts kind side.Read ∷ done)
read_alike pk.Confirm done = record {
  seats = λ conn fid conv is. is;
  sees = λ conn fid conv is. record { idle = λ e. e; asked = λ e. e; confirm = λ e. ap (list_any (eqb conv)) (read_same (prompts_of done pk.Confirm)) ∙ e; needkey = λ e. e };
  talks = λ conv. refl;
  opened = refl;
}
read_alike pk.Needkey done = record {
  seats = λ conn fid conv is. is;
  sees = λ conn fid conv is. record { idle = λ e. e; asked = λ e. e; confirm = λ e. e; needkey = λ e. ap (list_any (eqb conv)) (read_same (prompts_of done pk.Needkey)) ∙ e };
  talks = λ conv. refl;
  opened = refl;
}

log_alike : (call : side.LogCall) (done : List Deed) → Alike done (OfLog call ∷ done)
log_alike call done = record { seats = λ conn fid conv is. is; sees = λ conn fid conv is. grows_same _ _ refl; talks = λ conv. refl; opened = refl }

pub line_alike : (node : Node) (done : List Deed) → Alike done (line_read node done)
line_alike Confirm done = read_alike pk.Confirm done
line_alike Needkey done = read_alike pk.Needkey done
line_alike Log done = log_alike side.Taken done
line_alike Root done = alike_itself done
line_alike Factotum done = alike_itself done
line_alike Rpc done = alike_itself done
line_alike Ctl done = alike_itself done
line_alike Proto done = alike_itself done

serve_alike : (node : Node) (conn tag : ℕ) (what : Found) (done : List Deed) → Alike done (serve_read node conn tag what done)
serve_alike node conn tag Nothing done = alike_itself done
serve_alike node conn tag TooLong done = settled_alike conn tag too_small done
serve_alike node conn tag (First line) done =
    alike_then done (line_read node done) (OfReplies conn (Settled tag (r.Read line)) ∷ line_read node done) (line_alike node done) (settled_alike conn tag (r.Read line) (line_read node done))

first_alike : (node : Node) (conn : ℕ) (o : Option Wait) (done : List Deed) → Alike done (serve_first node conn o done)
first_alike node conn None done = alike_itself done
first_alike node conn (Some wait) done = serve_alike node conn wait.tag (found wait.count (lines_in done node)) done

reads_alike : (n : ℕ) (node : Node) (conn fid : ℕ) (done : List Deed) → Alike done (serve_reads n node conn fid done)
reads_alike zero node conn fid done = alike_itself done
reads_alike (suc n) node conn fid done =
    let one = serve_first node conn (reader done conn fid) done in
    alike_then done one (serve_reads n node conn fid one) (first_alike node conn (reader done conn fid) done) (reads_alike n node conn fid one)

to_alike : (node : Node) (o : Option (ℕ × ℕ)) (done : List Deed) → Alike done (served_to node o done)
to_alike node None done = alike_itself done
to_alike node (Some holder) done = reads_alike (length (waits done holder.0)) node holder.0 holder.1 done

pub served_alike : (done : List Deed) → Alike done (all_served done)
served_alike done =
    let one = served Confirm done in
    let two = served Needkey one in
    alike_then done one (all_served done) (to_alike Confirm (holder_of done Confirm) done)
    (alike_then one two (all_served done) (to_alike Needkey (holder_of one Needkey) one) (to_alike Log (holder_of two Log) two))

lines_alike : (lines : List (List ℕ)) (done : List Deed) → Alike done (logged lines done)
lines_alike [] done = alike_itself done
lines_alike (line ∷ lines) done =
    let one = OfLog (side.Pushed line) ∷ done in
    alike_then done one (logged lines one) (log_alike (side.Pushed line) done) (lines_alike lines one)

pub logged_alike : (conv : ℕ) (before : Standing) (done : List Deed) → Alike done (then_logged conv before done)
logged_alike conv before done = lines_alike (log_lines (is_debug done) conv before (standing_of done conv)) done
