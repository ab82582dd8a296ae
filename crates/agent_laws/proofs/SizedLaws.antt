-- Whatever the sizes of reads of rpc are that wait: what is the same of deeds that are the same in public but for these; and that
-- the sizes of reads that wait for a line are there.
use Rattle.std.proofs.Common.{◌≡◌, ℕ, List, [], ◌∷◌, ◌++◌, map, Bool, true, false, cond, eqb, ◌&&◌, not, Option, Some, None, refl, sym, ap, ◌∙◌, subst}
use Rattle.std.specs.Prelude.{find, option_map, is_some}
use Rattle.std.specs.List.{filter}
use Rattle.std.proofs.lemmas.Bool.{and_parts, eqb-true}
use Rattle.nine.specs.declared.message.RBody.{RBody}
use Rattle.file_tree.specs.declared.tree.Node.{Node}
use Rattle.file_tree.specs.declared.tree.Node.TheVariants.{Root, Factotum, Rpc, Ctl, Confirm, Needkey, Proto, Log}
use Rattle.file_tree.specs.declared.tree.FidState.{FidState}
use Rattle.file_tree.specs.Tree.{file}
use Rattle.attr_tuples.proofs.EqualityLemmas.{eqb_swap}
use Rattle.file_tree.specs.Calls.{is_open, node_of}
use Rattle.side_files.specs.declared.line.PromptKind.{PromptKind}
use Rattle.side_files.specs.declared.line.PromptKind.TheVariants as k
use Rattle.side_files.specs.Calls as side
use Rattle.side_files.specs.Questions.{unread_lines}
use Rattle.agent_history.specs.Deeds.{Deed, OfFids, OfKeys, OfReplies, OfConnection, OfTalk, OfPrompts, OfLog, Raised, HandedOut, DropTaken, Swept, Halted, Versioned, Attached, Walked, Opened, Listed, Browsed, Clunked, Answered, Awaited, Settled, Flushed, Taken, Entered, Hung, fid_of, held_by, holder_of, is_debug, is_halted, keys_of, msize_of, names, next_of, text_of, was_hung, was_opened}
use Rattle.agent_history.specs.Replies.{Wait, fid_given_up, first_of, has_settled, is_unsettled, reader, settle_fid, settle_tag, settled_by, waits}
use Rattle.agent_history.specs.SideFiles.{is_line_file, lines_in, log_calls, prompt_calls}
use Rattle.agent_history.specs.Conversations.{speakers}
use Rattle.agent_history.specs.Requests.{is_rpc}
use Rattle.agent_history.specs.Histories.{History, deeds, entered}
use Rattle.agent_laws.specs.Laws.{all_open, in_public, unsized}
use Rattle.agent_laws.proofs.KindLaws.{KeepsOf, is_done, is_met}
use Rattle.agent_laws.proofs.GrowLaws.{KeepsAny, history_grows}
use Rattle.agent_laws.proofs.HiddenLaws.{hidden_list, list_text_hidden}
use Rattle.key_lists.specs.Listing.{list_text}
use Rattle.key_lists.specs.Edits.{KeyEdit, keys_after}
use Rattle.agent_laws.proofs.ExclusiveLaws.{holder_opens}
use Rattle.agent_laws.proofs.PublicLaws.{PublicSight, bare, holder_public, fid_public, keys_public, log_public, msize_public, next_public, plain, plains, plains_so, prompts_public, saw, text_public, seen, seen_unsettled, waits_public}
use Rattle.agent_laws.proofs.SeenLaws.{debug_public, halted_public, held_public, hung_public, opened_public, settled_public, speakers_public}
use Rattle.agent_laws.proofs.SizeLaws.{bares, edits_unsized, next_unsized, open_unsized, text_unsized, debug_unsized, fid_unsized, halted_unsized, held_unsized, holder_unsized, hung_unsized, log_unsized, msize_unsized, opened_unsized, prompts_unsized, settled_unsized, speakers_unsized, waits_unsized}
use Rattle.agent_laws.proofs.ShutLaws.{find_seen, reads}

-- ---- what is read off the deeds in public, but for sizes

abbrev pub sight : List Deed → List Deed
sight done = in_public (unsized done)

pub alike : {X : Type 0} (f : List Deed → X) → ((done : List Deed) → f (sight done) ≡ f done) → (a b : List Deed) → sight a ≡ sight b → f a ≡ f b
alike f h a b e = sym (h a) ∙ ap f e ∙ h b

pub speakers_sized : (done : List Deed) → speakers (sight done) ≡ speakers done
speakers_sized done = speakers_public (unsized done) ∙ speakers_unsized done

pub holder_sized : (done : List Deed) (node : Node) → holder_of (sight done) node ≡ holder_of done node
holder_sized done node = holder_public (unsized done) node ∙ holder_unsized done node

pub fid_sized : (done : List Deed) (conn fid : ℕ) → fid_of (sight done) conn fid ≡ fid_of done conn fid
fid_sized done conn fid = fid_public (unsized done) conn fid ∙ fid_unsized done conn fid

pub msize_sized : (done : List Deed) (conn : ℕ) → msize_of (sight done) conn ≡ msize_of done conn
msize_sized done conn = msize_public (unsized done) conn ∙ msize_unsized done conn

pub held_sized : (done : List Deed) (conn : ℕ) → held_by (sight done) conn ≡ held_by done conn
held_sized done conn = held_public (unsized done) conn ∙ held_unsized done conn

pub prompts_sized : (done : List Deed) (of : PromptKind) → prompt_calls (sight done) of ≡ prompt_calls done of
prompts_sized done of = prompts_public (unsized done) of ∙ prompts_unsized done of

pub debug_sized : (done : List Deed) → is_debug (sight done) ≡ is_debug done
debug_sized done = debug_public (unsized done) ∙ debug_unsized done

pub opened_sized : (done : List Deed) (conn : ℕ) → was_opened (sight done) conn ≡ was_opened done conn
opened_sized done conn = opened_public (unsized done) conn ∙ opened_unsized done conn

pub hung_sized : (done : List Deed) (conn : ℕ) → was_hung (sight done) conn ≡ was_hung done conn
hung_sized done conn = hung_public (unsized done) conn ∙ hung_unsized done conn

pub halted_sized : (done : List Deed) → is_halted (sight done) ≡ is_halted done
halted_sized done = halted_public (unsized done) ∙ halted_unsized done

pub settled_sized : (done : List Deed) → has_settled (sight done) ≡ has_settled done
settled_sized done = settled_public (unsized done) ∙ settled_unsized done

pub lines_sized : (done : List Deed) (node : Node) → lines_in (sight done) node ≡ lines_in done node
lines_sized done Confirm = ap (λ (cs : List side.Call). unread_lines (side.after k.Confirm cs)) (prompts_sized done k.Confirm)
lines_sized done Needkey = ap (λ (cs : List side.Call). unread_lines (side.after k.Needkey cs)) (prompts_sized done k.Needkey)
lines_sized done Log = ap side.held (log_public (unsized done) ∙ log_unsized done)
lines_sized done Root = refl
lines_sized done Factotum = refl
lines_sized done Rpc = refl
lines_sized done Ctl = refl
lines_sized done Proto = refl

-- ---- reads that wait, whatever they are told and their sizes

bare_saw : (ws : List Wait) → bares (saw ws) ≡ saw (bares ws)
bare_saw [] = refl
bare_saw (w ∷ ws) = ap (λ (vs : List Wait). plain w ∷ vs) (bare_saw ws)

pub waits_sized : (done : List Deed) (conn : ℕ) → plains (waits (sight done) conn) ≡ plains (waits done conn)
waits_sized done conn =
    plains_so (waits (sight done) conn) ∙ ap bares (waits_public (unsized done) conn) ∙ bare_saw (waits (unsized done) conn) ∙ ap saw (waits_unsized done conn) ∙ sym (bare_saw (waits done conn)) ∙ sym (plains_so (waits done conn))

plain_step : (w : Wait) (one other : Option Wait) (b : Bool) → option_map plain one ≡ other → option_map plain (cond b (Some w) one) ≡ cond b (Some (plain w)) other
plain_step w one other true e = refl
plain_step w one other false e = e

pub find_plain : (fid : ℕ) (ws : List Wait) → option_map plain (find (reads fid) ws) ≡ find (reads fid) (plains ws)
find_plain fid [] = refl
find_plain fid (w ∷ ws) =
    ap (λ (b : Bool). option_map plain (cond (eqb w.fid fid && b) (Some w) (find (reads fid) ws))) (sym (seen_unsettled w))
    ∙ plain_step w (find (reads fid) ws) (find (reads fid) (plains ws)) (eqb w.fid fid && is_unsettled (seen w)) (find_plain fid ws)

pub readers_plain : (conn fid : ℕ) (a b : List Deed) → sight a ≡ sight b → option_map plain (reader a conn fid) ≡ option_map plain (reader b conn fid)
readers_plain conn fid a b e =
    find_plain fid (waits a conn)
    ∙ ap (find (reads fid)) (sym (waits_sized a conn) ∙ ap (λ (d : List Deed). plains (waits d conn)) e ∙ waits_sized b conn)
    ∙ sym (find_plain fid (waits b conn))

-- ---- the sizes of reads that wait for a line are there

abbrev pub Look : Type 0
Look = ℕ → Option FidState

-- it is the same but for its size, its fid is open while it waits, and where that reads lines the size is the same
pub record Pair (look : Look) (v w : Wait) : Type 0 where
  pub same : bare v ≡ bare w
  pub opened : is_unsettled w ≡ true → is_open (look w.fid) ≡ true
  pub size : is_unsettled w ≡ true → is_line_file (node_of (look w.fid)) ≡ true → v.count ≡ w.count

abbrev pub Pairs : Look → List Wait → List Wait → Type 0
Pairs look [] [] = Unit {0}
Pairs look [] (w ∷ ws) = ⊥
Pairs look (v ∷ vs) [] = ⊥
Pairs look (v ∷ vs) (w ∷ ws) = Pair look v w × Pairs look vs ws

abbrev pub look_at : List Deed → ℕ → Look
look_at done conn = λ fid. fid_of done conn fid

abbrev pub Sizes : List Deed → Type 0
Sizes done = (conn : ℕ) → Pairs (look_at done conn) (waits (unsized done) conn) (waits done conn)

same_fid : (v w : Wait) → bare v ≡ bare w → v.fid ≡ w.fid
same_fid v w e = ap (λ (x : Wait). x.fid) e

same_tag : (v w : Wait) → bare v ≡ bare w → v.tag ≡ w.tag
same_tag v w e = ap (λ (x : Wait). x.tag) e

pairs_append : (look : Look) (vs ws : List Wait) (v w : Wait) → Pairs look vs ws → Pair look v w → Pairs look (vs ++ v ∷ []) (ws ++ w ∷ [])
pairs_append look [] [] v w h p = (p, tt)
pairs_append look [] (x ∷ ws) v w h p = absurd h
pairs_append look (y ∷ vs) [] v w h p = absurd h
pairs_append look (y ∷ vs) (x ∷ ws) v w h p = (h.0, pairs_append look vs ws v w h.1 p)

settled_never : (body : RBody) (w : Wait) → is_unsettled (settled_by body w) ≡ true → ⊥
settled_never body w e = by_reply w.reply e
  where
    by_reply : (o : Option RBody) → not (is_some (first_of body o)) ≡ true → ⊥
    by_reply None f = cc
    by_reply (Some first) f = cc

pair_settled : (look other : Look) (body : RBody) (v w : Wait) → Pair look v w → Pair other (settled_by body v) (settled_by body w)
pair_settled look other body v w p = record { same = ap (settled_by body) p.same; opened = λ e. absurd (settled_never body w e); size = λ e. absurd (settled_never body w e) }

pairs_tag : (look : Look) (tag : ℕ) (body : RBody) (vs ws : List Wait) → Pairs look vs ws → Pairs look (settle_tag tag body vs) (settle_tag tag body ws)
pairs_tag look tag body [] [] h = tt
pairs_tag look tag body [] (w ∷ ws) h = absurd h
pairs_tag look tag body (v ∷ vs) [] h = absurd h
pairs_tag look tag body (v ∷ vs) (w ∷ ws) h =
    subst (λ (n : ℕ). Pairs look (cond (eqb n tag) (settled_by body v ∷ vs) (v ∷ settle_tag tag body vs)) (settle_tag tag body (w ∷ ws))) (sym (same_tag v w h.0.same))
    (by_it (eqb w.tag tag) (pairs_tag look tag body vs ws h.1))
  where
    by_it : (x : Bool) → Pairs look (settle_tag tag body vs) (settle_tag tag body ws) → Pairs look (cond x (settled_by body v ∷ vs) (v ∷ settle_tag tag body vs)) (cond x (settled_by body w ∷ ws) (w ∷ settle_tag tag body ws))
    by_it true more = (pair_settled look look body v w h.0, h.1)
    by_it false more = (h.0, more)

pairs_kept : (look : Look) (keep : Wait → Bool) (vs ws : List Wait) → ((w : Wait) → keep (bare w) ≡ keep w) → Pairs look vs ws → Pairs look (filter keep vs) (filter keep ws)
pairs_kept look keep [] [] same h = tt
pairs_kept look keep [] (w ∷ ws) same h = absurd h
pairs_kept look keep (v ∷ vs) [] same h = absurd h
pairs_kept look keep (v ∷ vs) (w ∷ ws) same h =
    subst (λ (x : Bool). Pairs look (cond x (v ∷ filter keep vs) (filter keep vs)) (filter keep (w ∷ ws))) (sym (sym (same v) ∙ ap keep h.0.same ∙ same w))
    (by_it (keep w) (pairs_kept look keep vs ws same h.1))
  where
    by_it : (x : Bool) → Pairs look (filter keep vs) (filter keep ws) → Pairs look (cond x (v ∷ filter keep vs) (filter keep vs)) (cond x (w ∷ filter keep ws) (filter keep ws))
    by_it true more = (h.0, more)
    by_it false more = more

-- fids that aren't open may change
pair_look : (look other : Look) (v w : Wait) → ((f : ℕ) → is_open (look f) ≡ true → other f ≡ look f) → Pair look v w → Pair other v w
pair_look look other v w same p = record {
  same = p.same;
  opened = λ e. ap is_open (same w.fid (p.opened e)) ∙ p.opened e;
  size = λ e f. p.size e (ap (λ (o : Option FidState). is_line_file (node_of o)) (sym (same w.fid (p.opened e))) ∙ f);
}

pairs_look : (look other : Look) (vs ws : List Wait) → ((f : ℕ) → is_open (look f) ≡ true → other f ≡ look f) → Pairs look vs ws → Pairs other vs ws
pairs_look look other [] [] same h = tt
pairs_look look other [] (w ∷ ws) same h = absurd h
pairs_look look other (v ∷ vs) [] same h = absurd h
pairs_look look other (v ∷ vs) (w ∷ ws) same h = (pair_look look other v w same h.0, pairs_look look other vs ws same h.1)

-- a fid is given up, and its reads are told
pair_given : (look other : Look) (fid : ℕ) (body : RBody) (v w : Wait) (x : Bool) → eqb w.fid fid ≡ x → ((f : ℕ) → eqb f fid ≡ false → other f ≡ look f) → Pair look v w → Pair other (cond x (settled_by body v) v) (cond x (settled_by body w) w)
pair_given look other fid body v w true e same p = pair_settled look other body v w p
pair_given look other fid body v w false e same p = record {
  same = p.same;
  opened = λ f. ap is_open (same w.fid e) ∙ p.opened f;
  size = λ f g. p.size f (ap (λ (o : Option FidState). is_line_file (node_of o)) (sym (same w.fid e)) ∙ g);
}

pairs_given : (look other : Look) (fid : ℕ) (body : RBody) (vs ws : List Wait) → ((f : ℕ) → eqb f fid ≡ false → other f ≡ look f) → Pairs look vs ws → Pairs other (map (settle_fid fid body) vs) (map (settle_fid fid body) ws)
pairs_given look other fid body [] [] same h = tt
pairs_given look other fid body [] (w ∷ ws) same h = absurd h
pairs_given look other fid body (v ∷ vs) [] same h = absurd h
pairs_given look other fid body (v ∷ vs) (w ∷ ws) same h = (
  subst (λ (n : ℕ). Pair other (cond (eqb n fid) (settled_by body v) v) (settle_fid fid body w)) (sym (same_fid v w h.0.same)) (pair_given look other fid body v w (eqb w.fid fid) refl same h.0),
  pairs_given look other fid body vs ws same h.1,
)

pairs_either : (x : Bool) (look : Look) (one other xs ys : List Wait) → Pairs look one other → Pairs look xs ys → Pairs look (cond x one xs) (cond x other ys)
pairs_either true look one other xs ys p q = p
pairs_either false look one other xs ys p q = q

-- ---- each deed keeps them

line_not_rpc : (node : Node) → is_line_file node ≡ true → is_rpc node ≡ false
line_not_rpc Root e = absurd cc
line_not_rpc Factotum e = absurd cc
line_not_rpc Rpc e = absurd cc
line_not_rpc Ctl e = absurd cc
line_not_rpc Confirm e = refl
line_not_rpc Needkey e = refl
line_not_rpc Proto e = absurd cc
line_not_rpc Log e = refl

-- another fid, or one that isn't open, is as it was
look_step : (b : Bool) (o p : Option FidState) (new : Option FidState) → (b ≡ true → o ≡ p) → is_open p ≡ false → is_open o ≡ true → cond b new o ≡ o
look_step true o p new same rests opened = absurd (let no_way : true ≡ false = sym opened ∙ ap is_open (same refl) ∙ rests in cc)
look_step false o p new same rests opened = refl

same_place : (done : List Deed) (at f conn g : ℕ) → (eqb at conn && eqb f g) ≡ true → fid_of done conn g ≡ fid_of done at f
same_place done at f conn g e =
    let parts = and_parts (eqb at conn) (eqb f g) e in
    sym (ap (λ (n : ℕ). fid_of done n f) (eqb-true at conn parts.0) ∙ ap (fid_of done conn) (eqb-true f g parts.1))

given_step : (at conn fid g : ℕ) (o : Option FidState) → eqb g fid ≡ false → cond (eqb at conn && eqb fid g) None o ≡ o
given_step at conn fid g o e = rw (ap (λ (x : Bool). eqb at conn && x) (eqb_swap fid g ∙ e), and_no (eqb at conn)) refl
  where
    and_no : (x : Bool) → (x && false) ≡ false
    and_no true = refl
    and_no false = refl

-- where the connection is another, nothing changes
other_conn : (x : Bool) (look other : Look) (one two vs ws : List Wait) → (x ≡ true → Pairs other one two) → (x ≡ false → (f : ℕ) → other f ≡ look f) → Pairs look vs ws → Pairs other (cond x one vs) (cond x two ws)
other_conn true look other one two vs ws p q h = p refl
other_conn false look other one two vs ws p q h = pairs_look look other vs ws (λ f _. q refl f) h

pub sizes_more : (c : ℕ) → KeepsOf (is_done c) Sizes
sizes_more c done (OfFids at (Versioned msize)) kind fits h = λ conn. other_conn (eqb at conn) (look_at done conn) (λ f. cond (eqb at conn) None (fid_of done conn f)) [] [] (waits (unsized done) conn) (waits done conn) (λ e. tt) (λ e f. rw e refl) (h conn)
sizes_more c done (OfConnection at Hung) kind fits h = λ conn. other_conn (eqb at conn) (look_at done conn) (λ f. cond (eqb at conn) None (fid_of done conn f)) [] [] (waits (unsized done) conn) (waits done conn) (λ e. tt) (λ e f. rw e refl) (h conn)
sizes_more c done (OfFids at (Clunked fid)) kind fits h = λ conn. other_conn (eqb at conn) (look_at done conn) (λ f. cond (eqb at conn && eqb fid f) None (fid_of done conn f)) _ _ (waits (unsized done) conn) (waits done conn)
    (λ e. pairs_given (look_at done conn) (λ f. cond (eqb at conn && eqb fid f) None (fid_of done conn f)) fid fid_given_up (waits (unsized done) conn) (waits done conn) (λ f off. given_step at conn fid f (fid_of done conn f) off) (h conn))
    (λ e f. rw e refl) (h conn)
sizes_more c done (OfFids at (Attached fid)) kind fits h = λ conn. pairs_look (look_at done conn) _ (waits (unsized done) conn) (waits done conn) (λ f opened. look_step (eqb at conn && eqb fid f) (fid_of done conn f) (fid_of done at fid) _ (same_place done at fid conn f) fits opened) (h conn)
sizes_more c done (OfFids at (Walked fid node)) kind fits h = λ conn. pairs_look (look_at done conn) _ (waits (unsized done) conn) (waits done conn) (λ f opened. look_step (eqb at conn && eqb fid f) (fid_of done conn f) (fid_of done at fid) _ (same_place done at fid conn f) fits opened) (h conn)
sizes_more c done (OfFids at (Opened fid mode)) kind fits h = λ conn. pairs_look (look_at done conn) _ (waits (unsized done) conn) (waits done conn) (λ f opened. look_step (eqb at conn && eqb fid f) (fid_of done conn f) (fid_of done at fid) _ (same_place done at fid conn f) fits.rests opened) (h conn)
sizes_more c done (OfFids at (Listed fid)) kind fits h = h
sizes_more c done (OfFids at (Browsed fid next)) kind fits h = h
sizes_more c done (OfKeys at deed) kind fits h = h
sizes_more c done (OfReplies at (Answered tag body)) kind fits h = h
sizes_more c done (OfReplies at (Awaited tag fid count)) kind fits h = λ conn. awaited_in conn (eqb at conn) refl
  where
    new_pair : Pair (look_at done at) (record { tag = tag; fid = fid; count = cond (is_rpc (node_of (fid_of done at fid))) 0 count; reply = None }) (record { tag = tag; fid = fid; count = count; reply = None })
    new_pair = record {
      same = refl;
      opened = λ e. (and_parts (is_open (fid_of done at fid)) _ fits.opened).0;
      size = λ e line. ap (λ (x : Bool). cond x 0 count) (line_not_rpc (node_of (fid_of done at fid)) line);
    }

    awaited_in : (conn : ℕ) (x : Bool) → eqb at conn ≡ x
        → Pairs (look_at done conn) (cond x (waits (unsized done) conn ++ record { tag = tag; fid = fid; count = cond (is_rpc (node_of (fid_of done at fid))) 0 count; reply = None } ∷ []) (waits (unsized done) conn)) (cond x (waits done conn ++ record { tag = tag; fid = fid; count = count; reply = None } ∷ []) (waits done conn))
    awaited_in conn true e = subst (λ (n : ℕ). Pairs (look_at done n) (waits (unsized done) n ++ record { tag = tag; fid = fid; count = cond (is_rpc (node_of (fid_of done at fid))) 0 count; reply = None } ∷ []) (waits done n ++ record { tag = tag; fid = fid; count = count; reply = None } ∷ [])) (eqb-true at conn e)
        (pairs_append (look_at done at) (waits (unsized done) at) (waits done at) _ _ (h at) new_pair)
    awaited_in conn false e = h conn
sizes_more c done (OfReplies at (Settled tag body)) kind fits h = λ conn. pairs_either (eqb at conn) (look_at done conn) _ _ _ _ (pairs_tag (look_at done conn) tag body (waits (unsized done) conn) (waits done conn) (h conn)) (h conn)
sizes_more c done (OfReplies at (Flushed tag)) kind fits h = λ conn. pairs_either (eqb at conn) (look_at done conn) _ _ _ _ (pairs_kept (look_at done conn) (λ wait. not (eqb wait.tag tag)) (waits (unsized done) conn) (waits done conn) (λ w. refl) (h conn)) (h conn)
sizes_more c done (OfReplies at Taken) kind fits h = h
sizes_more c done (OfConnection at Entered) kind fits h = h
sizes_more c done (OfTalk conv call) kind fits h = h
sizes_more c done (Raised conv) kind fits h = h
sizes_more c done HandedOut kind fits h = h
sizes_more c done DropTaken kind fits h = h
sizes_more c done (OfPrompts about doing) kind fits h = h
sizes_more c done (OfLog doing) kind fits h = h
sizes_more c done Swept kind fits h = λ conn. pairs_kept (look_at done conn) is_unsettled (waits (unsized done) conn) (waits done conn) (λ w. refl) (h conn)
sizes_more c done Halted kind fits h = λ conn. tt

-- ---- who has a file of lines open reads lines

abbrev pub Holds : List Deed → Type 0
Holds done = (node : Node) (conn fid : ℕ) → is_line_file node ≡ true → holder_of done node ≡ Some (conn, fid) → is_line_file (node_of (fid_of done conn fid)) ≡ true

named_line : (node : Node) (o : Option FidState) → is_line_file node ≡ true → names node o ≡ true → is_line_file (node_of o) ≡ true
named_line node None line e = absurd cc
named_line node (Some state) line e = by_nodes node state.node line e
  where
    by_nodes : (node there : Node) → is_line_file node ≡ true → eqb (file there).path (file node).path ≡ true → is_line_file there ≡ true
    by_nodes Root there line e = absurd cc
    by_nodes Factotum there line e = absurd cc
    by_nodes Rpc there line e = absurd cc
    by_nodes Ctl there line e = absurd cc
    by_nodes Confirm Root line e = absurd cc
    by_nodes Confirm Factotum line e = absurd cc
    by_nodes Confirm Rpc line e = absurd cc
    by_nodes Confirm Ctl line e = absurd cc
    by_nodes Confirm Confirm line e = refl
    by_nodes Confirm Needkey line e = refl
    by_nodes Confirm Proto line e = absurd cc
    by_nodes Confirm Log line e = refl
    by_nodes Needkey Root line e = absurd cc
    by_nodes Needkey Factotum line e = absurd cc
    by_nodes Needkey Rpc line e = absurd cc
    by_nodes Needkey Ctl line e = absurd cc
    by_nodes Needkey Confirm line e = refl
    by_nodes Needkey Needkey line e = refl
    by_nodes Needkey Proto line e = absurd cc
    by_nodes Needkey Log line e = refl
    by_nodes Proto there line e = absurd cc
    by_nodes Log Root line e = absurd cc
    by_nodes Log Factotum line e = absurd cc
    by_nodes Log Rpc line e = absurd cc
    by_nodes Log Ctl line e = absurd cc
    by_nodes Log Confirm line e = refl
    by_nodes Log Needkey line e = refl
    by_nodes Log Proto line e = absurd cc
    by_nodes Log Log line e = refl

pub holds : (H : History) → Holds (deeds H)
holds H node conn fid line e = named_line node (fid_of (deeds H) conn fid) line (and_parts (names node (fid_of (deeds H) conn fid)) (is_open (fid_of (deeds H) conn fid)) (holder_opens H node conn fid e)).0

-- what is known of reads that wait for lines
pub record Serves (done : List Deed) : Type 0 where
  pub sizes : Sizes done
  pub holds : Holds done

pub serves : (H : History) → Serves (deeds H)
serves H = record { sizes = history_grows Sizes sizes_more (λ conn. tt) H; holds = holds H }

pub entered_serves : (at : ℕ) (done : List Deed) → Serves done → Serves (entered at done)
entered_serves at done s = by_it (was_opened done at)
  where
    by_it : (b : Bool) → Serves (cond b done (OfConnection at Entered ∷ done))
    by_it true = s
    by_it false = record { sizes = s.sizes; holds = s.holds }

-- ---- the size of the read that is served

step_count : (x : Bool) (v w : Wait) (one other : Option Wait) → (x ≡ true → v.count ≡ w.count) → option_map (λ u. u.count) one ≡ option_map (λ u. u.count) other → option_map (λ u. u.count) (cond x (Some v) one) ≡ option_map (λ u. u.count) (cond x (Some w) other)
step_count true v w one other e f = ap Some (e refl)
step_count false v w one other e f = f

count_there : (look : Look) (fid : ℕ) (vs ws : List Wait) → is_line_file (node_of (look fid)) ≡ true → Pairs look vs ws → option_map (λ u. u.count) (find (reads fid) vs) ≡ option_map (λ u. u.count) (find (reads fid) ws)
count_there look fid [] [] line h = refl
count_there look fid [] (w ∷ ws) line h = absurd h
count_there look fid (v ∷ vs) [] line h = absurd h
count_there look fid (v ∷ vs) (w ∷ ws) line h =
    ap (λ (x : Wait). option_map (λ u. u.count) (cond (eqb x.fid fid && is_unsettled x) (Some v) (find (reads fid) vs))) h.0.same
    ∙ step_count (eqb w.fid fid && is_unsettled w) v w (find (reads fid) vs) (find (reads fid) ws)
    (λ e. let parts = and_parts (eqb w.fid fid) (is_unsettled w) e in h.0.size parts.1 (ap (λ (n : ℕ). is_line_file (node_of (look n))) (eqb-true w.fid fid parts.0) ∙ line))
    (count_there look fid vs ws line h.1)

counted_seen : (o : Option Wait) → option_map (λ u. u.count) o ≡ option_map (λ u. u.count) (option_map seen o)
counted_seen None = refl
counted_seen (Some w) = refl

pub readers_counted : (conn fid : ℕ) (a b : List Deed) → sight a ≡ sight b → Sizes a → Sizes b → is_line_file (node_of (fid_of a conn fid)) ≡ true → is_line_file (node_of (fid_of b conn fid)) ≡ true
    → option_map (λ u. u.count) (reader a conn fid) ≡ option_map (λ u. u.count) (reader b conn fid)
readers_counted conn fid a b e one other first second =
    sym (count_there (look_at a conn) fid (waits (unsized a) conn) (waits a conn) first (one conn))
    ∙ counted_seen (find (reads fid) (waits (unsized a) conn))
    ∙ ap (option_map (λ u. u.count)) (find_seen fid (waits (unsized a) conn) ∙ ap (find (reads fid)) (sym (waits_public (unsized a) conn) ∙ ap (λ (d : List Deed). saw (waits d conn)) e ∙ waits_public (unsized b) conn) ∙ sym (find_seen fid (waits (unsized b) conn)))
    ∙ sym (counted_seen (find (reads fid) (waits (unsized b) conn)))
    ∙ count_there (look_at b conn) fid (waits (unsized b) conn) (waits b conn) second (other conn)

-- ---- what reads of other files than rpc ask for

pub keys_sized : (done : List Deed) → all_open done ≡ true → keys_of (sight done) ≡ hidden_list (keys_of done)
keys_sized done o = keys_public (unsized done) (open_unsized done ∙ o) ∙ ap (λ (edits : List KeyEdit). hidden_list (keys_after edits)) (edits_unsized done)

next_sized : (done : List Deed) (conn fid : ℕ) → next_of (sight done) conn fid ≡ next_of done conn fid
next_sized done conn fid = next_public (unsized done) conn fid ∙ next_unsized done conn fid

pub sized_sight : (a b : List Deed) → all_open a ≡ true → all_open b ≡ true → sight a ≡ sight b → PublicSight a b
sized_sight a b o u e = record {
  msizes = λ conn. alike (λ done. msize_of done conn) (λ done. msize_sized done conn) a b e;
  fids = λ conn fid. alike (λ done. fid_of done conn fid) (λ done. fid_sized done conn fid) a b e;
  nexts = λ conn fid. alike (λ done. next_of done conn fid) (λ done. next_sized done conn fid) a b e;
  texts = λ conn fid. sym (text_public (unsized a) (open_unsized a ∙ o) conn fid ∙ text_unsized a conn fid) ∙ ap (λ (d : List Deed). text_of d conn fid) e ∙ text_public (unsized b) (open_unsized b ∙ u) conn fid ∙ text_unsized b conn fid;
  shown = sym (list_text_hidden (keys_of a)) ∙ ap list_text (sym (keys_sized a o) ∙ ap keys_of e ∙ keys_sized b u) ∙ list_text_hidden (keys_of b);
  waiting = λ conn. sym (waits_sized a conn) ∙ ap (λ (d : List Deed). plains (waits d conn)) e ∙ waits_sized b conn;
  prompting = λ of. alike (λ done. prompt_calls done of) (λ done. prompts_sized done of) a b e;
  logging = alike log_calls (λ done. log_public (unsized done) ∙ log_unsized done) a b e;
}

-- ---- one deed more

pub sizes_settled : (at tag : ℕ) (body : RBody) (done : List Deed) → Sizes done → Sizes (OfReplies at (Settled tag body) ∷ done)
sizes_settled at tag body done h = λ conn. pairs_either (eqb at conn) (look_at done conn) _ _ _ _ (pairs_tag (look_at done conn) tag body (waits (unsized done) conn) (waits done conn) (h conn)) (h conn)

pub serves_met : KeepsAny is_met Serves
serves_met done (OfTalk conv call) is s = record { sizes = s.sizes; holds = s.holds }
serves_met done (OfPrompts about doing) is s = record { sizes = s.sizes; holds = s.holds }
serves_met done (OfLog doing) is s = record { sizes = s.sizes; holds = s.holds }
serves_met done (Raised conv) is s = record { sizes = s.sizes; holds = s.holds }
serves_met done (OfReplies at (Settled tag body)) is s = record { sizes = sizes_settled at tag body done s.sizes; holds = s.holds }
serves_met done (OfReplies at (Answered tag body)) is s = absurd cc
serves_met done (OfReplies at (Awaited tag fid count)) is s = absurd cc
serves_met done (OfReplies at (Flushed tag)) is s = absurd cc
serves_met done (OfReplies at Taken) is s = absurd cc
serves_met done (OfFids at deed) is s = absurd cc
serves_met done (OfKeys at deed) is s = absurd cc
serves_met done (OfConnection at deed) is s = absurd cc
serves_met done HandedOut is s = absurd cc
serves_met done DropTaken is s = absurd cc
serves_met done Swept is s = absurd cc
serves_met done Halted is s = absurd cc
