-- Fids that leave take their own conversations alone with them; other deeds of fids and of connections take nobody's question.
use Rattle.std.proofs.Common.{◌≡◌, ℕ, List, [], ◌∷◌, map, Bool, true, false, cond, eqb, ◌&&◌, not, Option, Some, None, refl, sym, ap, subst, ◌∙◌}
use Rattle.std.specs.Prelude.{find, option_map}
use Rattle.std.specs.List.{filter, list_any, IsDistinct}
use Rattle.std.proofs.lemmas.Bool.{eqb-true, or_parts}
use Rattle.attr_tuples.proofs.EqualityLemmas.{eqb_swap}
use Rattle.file_tree.specs.declared.tree.Node.{Node}
use Rattle.side_files.specs.declared.line.PromptKind.{PromptKind}
use Rattle.side_files.specs.declared.line.PromptKind.TheVariants as pk
use Rattle.side_files.specs.Calls as side
use Rattle.agent_history.specs.Deeds.{Deed, OfFids, OfConnection, OfPrompts, Versioned, Attached, Walked, Listed, Browsed, Clunked, Entered, Hung}
use Rattle.agent_history.specs.Replies.{Wait, fid_given_up, settle_fid, settled_by, waits}
use Rattle.agent_history.specs.SideFiles.{askers, prompts_of}
use Rattle.agent_history.specs.Conversations.{Question, Speaker, all_withdrawn, conv_of, ended_by, opened_talks, questions, speakers, stands, talk}
use Rattle.agent_laws.specs.Laws.{asks_user}
use Rattle.agent_laws.proofs.AskLaws.{open_stands}
use Rattle.agent_laws.proofs.ConversationLaws.{Rise, any_kept, both_same, is_at, number, rise_kept}
use Rattle.agent_laws.proofs.MetLaws.{is_reader, withdrawn_speakers}
use Rattle.agent_laws.proofs.StepLaws.{Once, tag_in, fid_in, Ground, still_seats}
use Rattle.agent_laws.proofs.ViewLaws.{Alike, idle_from, no_reads, none_from, settled_off}
use Rattle.agent_laws.proofs.WaitLaws.{fid_same}
use Rattle.agent_laws.proofs.GoodLaws.{withdrawn_asks}

-- ---- fids that leave

withdrawn_questions : (leaving : List ℕ) (done : List Deed) → questions (all_withdrawn leaving done) ≡ questions done
withdrawn_questions [] done = refl
withdrawn_questions (c ∷ leaving) done = withdrawn_questions leaving (OfPrompts pk.Needkey (side.Withdrawn c) ∷ OfPrompts pk.Confirm (side.Withdrawn c) ∷ done)

withdrawn_waits : (leaving : List ℕ) (done : List Deed) (conn : ℕ) → waits (all_withdrawn leaving done) conn ≡ waits done conn
withdrawn_waits [] done conn = refl
withdrawn_waits (c ∷ leaving) done conn = withdrawn_waits leaving (OfPrompts pk.Needkey (side.Withdrawn c) ∷ OfPrompts pk.Confirm (side.Withdrawn c) ∷ done) conn

withdrawn_talk : (leaving : List ℕ) (done : List Deed) (n : ℕ) → talk (all_withdrawn leaving done) n ≡ talk done n
withdrawn_talk [] done n = refl
withdrawn_talk (c ∷ leaving) done n = withdrawn_talk leaving (OfPrompts pk.Needkey (side.Withdrawn c) ∷ OfPrompts pk.Confirm (side.Withdrawn c) ∷ done) n

withdrawn_opened : (leaving : List ℕ) (done : List Deed) → opened_talks (all_withdrawn leaving done) ≡ opened_talks done
withdrawn_opened [] done = refl
withdrawn_opened (c ∷ leaving) done = withdrawn_opened leaving (OfPrompts pk.Needkey (side.Withdrawn c) ∷ OfPrompts pk.Confirm (side.Withdrawn c) ∷ done)

two_asks : (n c : ℕ) (done : List Deed) (kind : PromptKind) → eqb n c ≡ false → asks_user done kind n ≡ true → asks_user (OfPrompts pk.Needkey (side.Withdrawn c) ∷ OfPrompts pk.Confirm (side.Withdrawn c) ∷ done) kind n ≡ true
two_asks n c done pk.Confirm off e = withdrawn_asks c n (prompts_of done pk.Confirm) (eqb_swap c n ∙ off) e
two_asks n c done pk.Needkey off e = withdrawn_asks c n (prompts_of done pk.Needkey) (eqb_swap c n ∙ off) e

still_asks : (n : ℕ) (leaving : List ℕ) (done : List Deed) (kind : PromptKind) → list_any (eqb n) leaving ≡ false → asks_user done kind n ≡ true → asks_user (all_withdrawn leaving done) kind n ≡ true
still_asks n [] done kind off e = e
still_asks n (c ∷ leaving) done kind off e =
    let parts = or_parts (eqb n c) (list_any (eqb n) leaving) off in
    still_asks n leaving (OfPrompts pk.Needkey (side.Withdrawn c) ∷ OfPrompts pk.Confirm (side.Withdrawn c) ∷ done) kind parts.1 (two_asks n c done kind parts.0 e)

-- who stands behind the deed isn't one of those who leave
not_leaving : (test : ℕ → Bool) (n : ℕ) (xs : List Speaker) → test n ≡ true → list_any (eqb n) (map (λ (s : Speaker). s.conv) (filter (λ (s : Speaker). not (test s.conv)) xs)) ≡ false
not_leaving test n [] h = refl
not_leaving test n (s ∷ xs) h = by_test (test s.conv) refl (not_leaving test n xs h)
  where
    apart : (b : Bool) → eqb n s.conv ≡ b → test s.conv ≡ false → b ≡ false
    apart true e off = absurd (let no_way : true ≡ false = sym h ∙ (ap test (eqb-true n s.conv e) ∙ off) in cc)
    apart false e off = refl

    by_test : (b : Bool) → test s.conv ≡ b → list_any (eqb n) (map (λ (s : Speaker). s.conv) (filter (λ (s : Speaker). not (test s.conv)) xs)) ≡ false
        → list_any (eqb n) (map (λ (s : Speaker). s.conv) (cond (not b) (s ∷ filter (λ (s : Speaker). not (test s.conv)) xs) (filter (λ (s : Speaker). not (test s.conv)) xs))) ≡ false
    by_test true e more = more
    by_test false e more = rw (apart (eqb n s.conv) refl e) more

-- a question stays where its conversation does
pub question_stays : (new : List Deed) (qs : List Question) (conv : ℕ) → stands new conv ≡ true → list_any (λ q. eqb q.conv conv) qs ≡ true → list_any (λ q. eqb q.conv conv) (filter (λ (q : Question). stands new q.conv) qs) ≡ true
question_stays new qs conv there e =
    any_kept (λ (q : Question). eqb q.conv conv) (λ (q : Question). stands new q.conv) qs (λ q is. ap (stands new) (eqb-true q.conv conv is) ∙ there) ∙ e

-- a deed of fids or of a connection
record Fids (old new : List Deed) : Type 0 where
  seats : (conn fid conv : ℕ) → conv_of new conn fid ≡ Some conv → conv_of old conn fid ≡ Some conv
  asked : questions new ≡ filter (λ (q : Question). stands new q.conv) (questions old)
  users : (kind : PromptKind) (conv : ℕ) → stands new conv ≡ true → asks_user old kind conv ≡ true → asks_user new kind conv ≡ true
  idle : (conn fid : ℕ) → no_reads fid (waits old conn) ≡ true → no_reads fid (waits new conn) ≡ true
  talks : (conv : ℕ) → talk new conv ≡ talk old conv
  opened : opened_talks new ≡ opened_talks old

fids_alike : (old new : List Deed) → Fids old new → Alike old new
fids_alike old new f = record {
  seats = f.seats;
  sees = λ conn fid conv at.
      let there = open_stands new conn fid conv at in
      record {
        idle = f.idle conn fid;
        asked = λ e. ap (list_any (λ (q : Question). eqb q.conv conv)) f.asked ∙ question_stays new (questions old) conv there e;
        confirm = f.users pk.Confirm conv there;
        needkey = f.users pk.Needkey conv there;
      };
  talks = f.talks;
  opened = f.opened;
}

kept_find : (p keep : Speaker → Bool) (xs : List Speaker) → ((s : Speaker) → p s ≡ true → keep s ≡ true) → find p (filter keep xs) ≡ find p xs
kept_find p keep [] h = refl
kept_find p keep (s ∷ xs) h = by_both (p s) (keep s) refl (h s) (kept_find p keep xs h)
  where
    by_both : (a b : Bool) → p s ≡ a → (a ≡ true → b ≡ true) → find p (filter keep xs) ≡ find p xs → find p (cond b (s ∷ filter keep xs) (filter keep xs)) ≡ cond a (Some s) (find p xs)
    by_both true true e f more = rw e refl
    by_both true false e f more = absurd (let no_way : false ≡ true = f refl in cc)
    by_both false true e f more = rw e more
    by_both false false e f more = more

left_find : (p keep : Speaker → Bool) (xs : List Speaker) → ((s : Speaker) → p s ≡ true → keep s ≡ false) → find p (filter keep xs) ≡ None
left_find p keep [] h = refl
left_find p keep (s ∷ xs) h = by_both (p s) (keep s) refl (h s) (left_find p keep xs h)
  where
    by_both : (a b : Bool) → p s ≡ a → (a ≡ true → b ≡ false) → find p (filter keep xs) ≡ None → find p (cond b (s ∷ filter keep xs) (filter keep xs)) ≡ None
    by_both true true e f more = absurd (let no_way : true ≡ false = f refl in cc)
    by_both true false e f more = more
    by_both false true e f more = rw e more
    by_both false false e f more = more

seats_by : (k : Bool) (p keep : Speaker → Bool) (xs : List Speaker) (conv : ℕ) → ((s : Speaker) → p s ≡ true → keep s ≡ k) → option_map (λ (s : Speaker). s.conv) (find p (filter keep xs)) ≡ Some conv → option_map (λ (s : Speaker). s.conv) (find p xs) ≡ Some conv
seats_by true p keep xs conv h e = ap (option_map (λ (s : Speaker). s.conv)) (sym (kept_find p keep xs h)) ∙ e
seats_by false p keep xs conv h e = absurd (let no_way : None ≡ Some conv = ap (option_map (λ (s : Speaker). s.conv)) (sym (left_find p keep xs h)) ∙ e in cc)

conn_seats : (at : ℕ) (xs : List Speaker) (conn fid conv : ℕ) → option_map (λ (s : Speaker). s.conv) (find (is_at conn fid) (filter (λ (s : Speaker). not (eqb s.conn at)) xs)) ≡ Some conv → option_map (λ (s : Speaker). s.conv) (find (is_at conn fid) xs) ≡ Some conv
conn_seats at xs conn fid conv e =
    seats_by (not (eqb conn at)) (is_at conn fid) (λ (s : Speaker). not (eqb s.conn at)) xs conv (λ s is. ap (λ (n : ℕ). not (eqb n at)) (both_same s.conn conn s.fid fid is).0) e

fid_seats : (at f : ℕ) (xs : List Speaker) (conn fid conv : ℕ) → option_map (λ (s : Speaker). s.conv) (find (is_at conn fid) (filter (λ (s : Speaker). not (eqb s.conn at && eqb s.fid f)) xs)) ≡ Some conv → option_map (λ (s : Speaker). s.conv) (find (is_at conn fid) xs) ≡ Some conv
fid_seats at f xs conn fid conv e =
    seats_by (not (eqb conn at && eqb fid f)) (is_at conn fid) (λ (s : Speaker). not (eqb s.conn at && eqb s.fid f)) xs conv
    (λ s is. let place = both_same s.conn conn s.fid fid is in ap (λ (n : ℕ). not (eqb n at && eqb s.fid f)) place.0 ∙ ap (λ (n : ℕ). not (eqb conn at && eqb n f)) place.1) e

-- reads that are given up
gone_idle : (b : Bool) (fid : ℕ) (ws : List Wait) → no_reads fid ws ≡ true → no_reads fid (cond b [] ws) ≡ true
gone_idle true fid ws e = refl
gone_idle false fid ws e = e

given_none : (fid f : ℕ) (ws : List Wait) → list_any (is_reader fid) ws ≡ false → list_any (is_reader fid) (map (settle_fid f fid_given_up) ws) ≡ false
given_none fid f [] e = refl
given_none fid f (w ∷ ws) e =
    let parts = or_parts (is_reader fid w) (list_any (is_reader fid) ws) e in
    rw (by_it (eqb w.fid f) parts.0) (given_none fid f ws parts.1)
  where
    by_it : (b : Bool) → is_reader fid w ≡ false → is_reader fid (cond b (settled_by fid_given_up w) w) ≡ false
    by_it true h = settled_off fid fid_given_up w
    by_it false h = h

clunked_idle : (b : Bool) (fid f : ℕ) (ws : List Wait) → no_reads fid ws ≡ true → no_reads fid (cond b (map (settle_fid f fid_given_up) ws) ws) ≡ true
clunked_idle true fid f ws e = idle_from fid (map (settle_fid f fid_given_up) ws) (given_none fid f ws (none_from fid ws e))
clunked_idle false fid f ws e = e

-- of the reads that are left no two have one tag, and one at most is of a fid
abbrev pub Lonely : ℕ → List Wait → Type 0
Lonely fid ws = IsDistinct eqb (map tag_in ws) × Once fid (map fid_in ws)

lonely_none : (fid : ℕ) → Lonely fid []
unfolding IsDistinct
lonely_none fid = (tt, tt)

gone_lonely : (b : Bool) (fid : ℕ) (ws : List Wait) → Lonely fid ws → Lonely fid (cond b [] ws)
gone_lonely true fid ws l = lonely_none fid
gone_lonely false fid ws l = l

clunked_lonely : (b : Bool) (fid f : ℕ) (ws : List Wait) → Lonely fid ws → Lonely fid (cond b (map (settle_fid f fid_given_up) ws) ws)
clunked_lonely true fid f ws l =
    (subst (IsDistinct eqb) (sym (fid_same tag_in (λ body w. refl) f fid_given_up ws)) l.0, subst (Once fid) (sym (fid_same fid_in (λ body w. refl) f fid_given_up ws)) l.1)
clunked_lonely false fid f ws l = l

-- what is left of it all behind some withdrawals
pub record Left (deed : Deed) (done : List Deed) : Type 0 where
  pub speaks : (d : List Deed) → speakers d ≡ speakers done → speakers (deed ∷ d) ≡ speakers (deed ∷ done)
  pub asked : (d : List Deed) → questions (deed ∷ d) ≡ filter (λ (q : Question). stands (deed ∷ d) q.conv) (questions d)
  pub users : (d : List Deed) (kind : PromptKind) → askers (deed ∷ d) kind ≡ askers d kind
  pub talks : (d : List Deed) (n : ℕ) → talk (deed ∷ d) n ≡ talk d n
  pub opened : (d : List Deed) → opened_talks (deed ∷ d) ≡ opened_talks d
  pub seats : (conn fid conv : ℕ) → conv_of (deed ∷ done) conn fid ≡ Some conv → conv_of done conn fid ≡ Some conv
  pub idle : (d : List Deed) (conn fid : ℕ) → no_reads fid (waits d conn) ≡ true → no_reads fid (waits (deed ∷ d) conn) ≡ true
  pub lonely : (d : List Deed) (conn fid : ℕ) → Lonely fid (waits d conn) → Lonely fid (waits (deed ∷ d) conn)
  pub rises : Rise (opened_talks done) (map number (speakers done)) → Rise (opened_talks done) (map number (speakers (deed ∷ done)))

left_seats : (deed : Deed) (done d : List Deed) → Left deed done → speakers d ≡ speakers done → (conn fid conv : ℕ) → conv_of (deed ∷ d) conn fid ≡ Some conv → conv_of done conn fid ≡ Some conv
left_seats deed done d l same conn fid conv at = l.seats conn fid conv (still_seats (deed ∷ done) (deed ∷ d) (l.speaks d same) conn fid conv at)

left_stands : (deed : Deed) (done d : List Deed) → Left deed done → speakers d ≡ speakers done → (conv : ℕ) → stands (deed ∷ d) conv ≡ true → stands (deed ∷ done) conv ≡ true
left_stands deed done d l same conv e = ap (list_any (λ (s : Speaker). eqb s.conv conv)) (sym (l.speaks d same)) ∙ e

pub left_alike : (deed : Deed) (done : List Deed) → Left deed done → Alike done (deed ∷ all_withdrawn (ended_by deed done) done)
left_alike deed done l =
    let leaving = ended_by deed done in
    let d = all_withdrawn leaving done in
    let same = withdrawn_speakers leaving done in
    fids_alike done (deed ∷ d) (record {
      seats = left_seats deed done d l same;
      asked = l.asked d ∙ ap (filter (λ (q : Question). stands (deed ∷ d) q.conv)) (withdrawn_questions leaving done);
      users = λ kind conv there e. ap (list_any (eqb conv)) (l.users d kind)
          ∙ still_asks conv leaving done kind (not_leaving (stands (deed ∷ done)) conv (speakers done) (left_stands deed done d l same conv there)) e;
      idle = λ conn fid e. l.idle d conn fid (ap (no_reads fid) (withdrawn_waits leaving done conn) ∙ e);
      talks = λ n. l.talks d n ∙ withdrawn_talk leaving done n;
      opened = l.opened d ∙ withdrawn_opened leaving done;
    })

pub left_ground : (deed : Deed) (done : List Deed) → Left deed done → Ground done → Ground (deed ∷ all_withdrawn (ended_by deed done) done)
left_ground deed done l g =
    let leaving = ended_by deed done in
    let d = all_withdrawn leaving done in
    let same = withdrawn_speakers leaving done in
    record {
      rise = subst (λ n. Rise n (map number (speakers (deed ∷ d)))) (sym (l.opened d ∙ withdrawn_opened leaving done)) (subst (λ ss. Rise (opened_talks done) (map number ss)) (sym (l.speaks d same)) (l.rises g.rise));
      lone = λ conn fid conv at. l.lonely d conn fid (subst (Lonely fid) (sym (withdrawn_waits leaving done conn)) (g.lone conn fid conv (left_seats deed done d l same conn fid conv at)));
    }

pub versioned_left : (at : ℕ) (msize : Option ℕ) (done : List Deed) → Left (OfFids at (Versioned msize)) done
versioned_left at msize done = record {
  speaks = λ d e. ap (λ (ss : List Speaker). filter (λ (s : Speaker). not (eqb s.conn at)) ss) e;
  asked = λ d. refl;
  users = λ d kind. refl;
  talks = λ d n. refl;
  opened = λ d. refl;
  seats = λ conn fid conv e. conn_seats at (speakers done) conn fid conv e;
  idle = λ d conn fid e. gone_idle (eqb at conn) fid (waits d conn) e;
  lonely = λ d conn fid l. gone_lonely (eqb at conn) fid (waits d conn) l;
  rises = λ r. rise_kept number (opened_talks done) (λ (s : Speaker). not (eqb s.conn at)) (speakers done) r;
}

pub hung_left : (at : ℕ) (done : List Deed) → Left (OfConnection at Hung) done
hung_left at done = record {
  speaks = λ d e. ap (λ (ss : List Speaker). filter (λ (s : Speaker). not (eqb s.conn at)) ss) e;
  asked = λ d. refl;
  users = λ d kind. refl;
  talks = λ d n. refl;
  opened = λ d. refl;
  seats = λ conn fid conv e. conn_seats at (speakers done) conn fid conv e;
  idle = λ d conn fid e. gone_idle (eqb at conn) fid (waits d conn) e;
  lonely = λ d conn fid l. gone_lonely (eqb at conn) fid (waits d conn) l;
  rises = λ r. rise_kept number (opened_talks done) (λ (s : Speaker). not (eqb s.conn at)) (speakers done) r;
}

pub clunked_left : (at f : ℕ) (done : List Deed) → Left (OfFids at (Clunked f)) done
clunked_left at f done = record {
  speaks = λ d e. ap (λ (ss : List Speaker). filter (λ (s : Speaker). not (eqb s.conn at && eqb s.fid f)) ss) e;
  asked = λ d. refl;
  users = λ d kind. refl;
  talks = λ d n. refl;
  opened = λ d. refl;
  seats = λ conn fid conv e. fid_seats at f (speakers done) conn fid conv e;
  idle = λ d conn fid e. clunked_idle (eqb at conn) fid f (waits d conn) e;
  lonely = λ d conn fid l. clunked_lonely (eqb at conn) fid f (waits d conn) l;
  rises = λ r. rise_kept number (opened_talks done) (λ (s : Speaker). not (eqb s.conn at && eqb s.fid f)) (speakers done) r;
}

-- a deed by which nobody leaves and nobody comes
plain_alike : (deed : Deed) (done : List Deed) → ((conn fid conv : ℕ) → conv_of (deed ∷ done) conn fid ≡ Some conv → conv_of done conn fid ≡ Some conv) → questions (deed ∷ done) ≡ filter (λ (q : Question). stands (deed ∷ done) q.conv) (questions done)
    → ((kind : PromptKind) → askers (deed ∷ done) kind ≡ askers done kind) → ((conn : ℕ) → waits (deed ∷ done) conn ≡ waits done conn) → ((n : ℕ) → talk (deed ∷ done) n ≡ talk done n) → opened_talks (deed ∷ done) ≡ opened_talks done → Alike done (deed ∷ done)
plain_alike deed done seats qs users ws tk op =
    fids_alike done (deed ∷ done) (record {
      seats = seats;
      asked = qs;
      users = λ kind conv there e. ap (list_any (eqb conv)) (users kind) ∙ e;
      idle = λ conn fid e. ap (no_reads fid) (ws conn) ∙ e;
      talks = tk;
      opened = op;
    })

pub attached_alike : (at f : ℕ) (done : List Deed) → Alike done (OfFids at (Attached f) ∷ done)
attached_alike at f done = plain_alike (OfFids at (Attached f)) done (λ conn fid conv e. e) refl (λ kind. refl) (λ conn. refl) (λ n. refl) refl

pub walked_alike : (at f : ℕ) (node : Node) (done : List Deed) → Alike done (OfFids at (Walked f node) ∷ done)
walked_alike at f node done = plain_alike (OfFids at (Walked f node)) done (λ conn fid conv e. e) refl (λ kind. refl) (λ conn. refl) (λ n. refl) refl

pub listed_alike : (at f : ℕ) (done : List Deed) → Alike done (OfFids at (Listed f) ∷ done)
listed_alike at f done = plain_alike (OfFids at (Listed f)) done (λ conn fid conv e. e) refl (λ kind. refl) (λ conn. refl) (λ n. refl) refl

pub browsed_alike : (at f next : ℕ) (done : List Deed) → Alike done (OfFids at (Browsed f next) ∷ done)
browsed_alike at f next done = plain_alike (OfFids at (Browsed f next)) done (λ conn fid conv e. e) refl (λ kind. refl) (λ conn. refl) (λ n. refl) refl

pub entered_alike : (at : ℕ) (done : List Deed) → Alike done (OfConnection at Entered ∷ done)
entered_alike at done = plain_alike (OfConnection at Entered) done (λ conn fid conv e. e) refl (λ kind. refl) (λ conn. refl) (λ n. refl) refl
