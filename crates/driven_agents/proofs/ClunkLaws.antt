-- What a fid that is given up leaves of a calm agent of which nobody asked a user anything.
use Rattle.std.proofs.Common.{◌≡◌, ℕ, List, [], ◌∷◌, Bool, true, false, cond, eqb, ltb, ◌&&◌, not, map, Some, None, refl, sym, ap, subst, ◌∙◌}
use Rattle.std.specs.Prelude.{filter, find, is_some, option_map}
use Rattle.std.specs.List.{filter_map, list_all}
use Rattle.std.proofs.lemmas.Bool.{and_parts, eqb-true}
use Rattle.nine.specs.declared.message.TBody.TheVariants as t
use Rattle.side_files.specs.declared.line.PromptKind.{PromptKind}
use Rattle.side_files.specs.declared.line.PromptKind.TheVariants as k
use Rattle.side_files.specs.Calls as side
use Rattle.agent_history.specs.Deeds.{Clunked, Deed, OfFids, OfPrompts, fid_of, holder_of}
use Rattle.agent_history.specs.Replies.{Wait, fid_given_up, reply_in, settle_fid, settled_by, waits}
use Rattle.agent_history.specs.SideFiles.{askers, file_of, is_of, prompt_calls}
use Rattle.agent_history.specs.Conversations.{Speaker, all_shut, all_withdrawn, asker, closed, conv_of, ended_by, given_up_by, opened_talks, questions, speakers}
use Rattle.agent_history.specs.Requests.{Call, after}
use Rattle.agent_history.specs.Histories.{History, deeds}
use Rattle.agent_laws.proofs.ConversationLaws.{speak_once}
use Rattle.driven_agents.proofs.QuietLaws.{NoneAsked, nobody_waits, one_call}
use Rattle.driven_agents.proofs.WriteLaws.{quiet_deeds}
use Rattle.driven_agents.specs.Idle.{AreRead, IsCalm}
use Rattle.driven_agents.proofs.AlikeLaws.{Alike, GivesNone, alike_calm, alike_itself}
use Rattle.driven_agents.proofs.FoundLemmas.{found_by, found_kept, found_passes, found_stays}
use Rattle.driven_agents.proofs.SeatLaws.{all_seated, has_seat, is_at, others_stand, stays}
use Rattle.driven_agents.proofs.IdleStillLaws.{IsStill, kept_all, still_of}
use Rattle.driven_agents.proofs.UnsettledLaws.{given_up_bare, none_given, none_settled, other_reader}

-- ---- questions to users

pub withdrawn_keeps : (P : List Deed → Type 0) → ((kind : PromptKind) (conv : ℕ) (done : List Deed) → P done → P (OfPrompts kind (side.Withdrawn conv) ∷ done)) → (convs : List ℕ) (done : List Deed) → P done → P (all_withdrawn convs done)
withdrawn_keeps P keep [] done p = p
withdrawn_keeps P keep (conv ∷ convs) done p = withdrawn_keeps P keep convs (OfPrompts k.Needkey (side.Withdrawn conv) ∷ OfPrompts k.Confirm (side.Withdrawn conv) ∷ done) (keep k.Needkey conv (OfPrompts k.Confirm (side.Withdrawn conv) ∷ done) (keep k.Confirm conv done p))

abbrev pub NobodyAsked : List Deed → Type 0
NobodyAsked done = (kind : PromptKind) → NoneAsked (prompt_calls done kind)

closed_none : (kind : PromptKind) (done : List Deed) → askers done kind ≡ [] → closed kind done ≡ done
closed_none kind done none = ap (λ convs. cond (is_some (holder_of done (file_of kind))) done (all_shut kind convs done)) none ∙ either_same (is_some (holder_of done (file_of kind)))
  where
    either_same : (b : Bool) → cond b done done ≡ done
    either_same true = refl
    either_same false = refl

-- the deeds of the conversations that end, in front of the fid's
abbrev pub gone_by : ℕ → List Deed → List Deed
gone_by fid done = all_withdrawn (ended_by (OfFids 0 (Clunked fid)) done) done

pub clunk_is : (call : Call) (fid : ℕ) (done : List Deed) → call.conn ≡ 0 → NobodyAsked done → after done call (t.Clunk fid) ≡ OfFids 0 (Clunked fid) ∷ gone_by fid done
unfolding after
clunk_is call fid done on quiet =
    let deed = OfFids 0 (Clunked fid) in
    let gone = gone_by fid done in
    let nobody = withdrawn_keeps NobodyAsked (λ kind conv d q of. one_call (is_of kind of) (side.Withdrawn conv) (prompt_calls d of) refl (q of)) (ended_by deed done) done quiet in
    let none : (kind : PromptKind) → askers (deed ∷ gone) kind ≡ [] = λ kind. nobody_waits (deed ∷ gone) kind (nobody kind) in
    ap (λ conn. given_up_by (OfFids conn (Clunked fid)) done) on
    ∙ (ap (closed k.Needkey) (closed_none k.Confirm (deed ∷ gone) (none k.Confirm)) ∙ closed_none k.Needkey (deed ∷ gone) (none k.Needkey))

-- they change nothing of what calm means
gone_alike : (fid : ℕ) (done : List Deed) → Alike done done → Alike done (gone_by fid done)
gone_alike fid done a = withdrawn_keeps (Alike done) (λ kind conv d a. record {
  names = a.names;
  entered = a.entered;
  there = a.there;
  msize = a.msize;
  root = a.root;
  speaking = a.speaking;
  opened = a.opened;
  waiting = a.waiting;
  settled = a.settled;
  asked = a.asked;
  phases = a.phases;
}) (ended_by (OfFids 0 (Clunked fid)) done) done a

-- ---- the fid's own deed

same_step : (p : Wait → Bool) (w : Wait) (b : Bool) → p (settled_by fid_given_up w) ≡ p w → p (cond b (settled_by fid_given_up w) w) ≡ p w
same_step p w true same = same
same_step p w false same = refl

same_waits : (p : Wait → Bool) (fid : ℕ) (ws : List Wait) → ((w : Wait) → p (settled_by fid_given_up w) ≡ p w) → list_all p (map (settle_fid fid fid_given_up) ws) ≡ list_all p ws
same_waits p fid [] same = refl
same_waits p fid (w ∷ ws) same = rw (same_step p w (eqb w.fid fid) (same w), same_waits p fid ws same) refl

ended_still : (fid : ℕ) (gone : List Deed) → eqb fid 0 ≡ false → IsStill gone → IsStill (OfFids 0 (Clunked fid) ∷ gone)
ended_still fid gone off s = record {
  names = s.names;
  entered = s.entered;
  there = s.there;
  msize = s.msize;
  alone = kept_all (λ s. eqb s.conn 0) (stays fid) (speakers gone) s.alone;
  root = ap (λ b. cond b None (fid_of gone 0 0)) off ∙ s.root;
  small = kept_all (λ s. ltb s.fid 65535) (stays fid) (speakers gone) s.small;
  tagged = same_waits (λ w. eqb w.tag w.fid) fid (waits gone 0) (λ w. refl) ∙ s.tagged;
  counted = same_waits (λ w. eqb w.count 8192) fid (waits gone 0) (λ w. refl) ∙ s.counted;
}

-- the others are read as before
apart_of : (fid : ℕ) (s : Speaker) (b : Bool) → eqb s.conn 0 ≡ true → not (eqb s.conn 0 && eqb s.fid fid) ≡ true → eqb s.fid fid ≡ b → b ≡ false
apart_of fid s true here kept is = absurd (let no_way : false ≡ true = ap not (sym is) ∙ (ap (λ b. not (b && eqb s.fid fid)) (sym here) ∙ kept) in cc)
apart_of fid s false here kept is = refl

ended_read : (fid : ℕ) (gone : List Deed) (ss : List Speaker) → list_all (λ s. eqb s.conn 0) ss ≡ true → AreRead gone ss → AreRead (OfFids 0 (Clunked fid) ∷ gone) (filter (stays fid) ss)
ended_read fid gone [] alone read = tt
ended_read fid gone (s ∷ ss) alone read =
    let parts = and_parts (eqb s.conn 0) (list_all (λ s. eqb s.conn 0) ss) alone in
    by_stay (stays fid s) refl (λ kept. apart_of fid s (eqb s.fid fid) parts.0 kept refl) (ended_read fid gone ss parts.1 read.1)
  where
    by_stay : (b : Bool) → stays fid s ≡ b → (stays fid s ≡ true → eqb s.fid fid ≡ false) → AreRead (OfFids 0 (Clunked fid) ∷ gone) (filter (stays fid) ss) → AreRead (OfFids 0 (Clunked fid) ∷ gone) (cond b (s ∷ filter (stays fid) ss) (filter (stays fid) ss))
    by_stay true kept apart more = (λ on. other_reader fid s.fid fid_given_up (waits gone 0) (apart kept) ∙ read.0 on, more)
    by_stay false kept apart more = more

-- ---- what is so behind it

-- of an agent before and behind the end of the conversation of a number, which a fid had open
pub record EndsSo (fid number : ℕ) (done later : List Deed) : Type 0 where
  pub still : IsStill later
  pub read : AreRead later (speakers later)
  pub opened : opened_talks later ≡ opened_talks done
  pub others : (other : ℕ) → eqb other fid ≡ false → conv_of later 0 other ≡ conv_of done 0 other
  pub askers : (call n : ℕ) → asker done call ≡ Some n → eqb n number ≡ false → asker later call ≡ Some n
  pub told : GivesNone (filter_map reply_in (waits later 0))

-- where it is refused
pub ends_not : (fid number : ℕ) (done : List Deed) → IsCalm done → EndsSo fid number done done
ends_not fid number done c = record {
  still = still_of done c;
  read = c.read;
  opened = refl;
  others = λ other apart. refl;
  askers = λ call n is apart. is;
  told = subst GivesNone (sym (none_given (waits done 0) (none_settled done 0 c.settled))) tt;
}

kept_seat : (fid other : ℕ) (s : Speaker) → eqb other fid ≡ false → is_at other s ≡ true → stays fid s ≡ true
kept_seat fid other s apart at =
    let here = and_parts (eqb s.conn 0) (eqb s.fid other) at in
    let off : eqb s.fid fid ≡ false = ap (λ n. eqb n fid) (eqb-true s.fid other here.1) ∙ apart in
    rw (here.0, off) refl

ended_asker : (fid number call n : ℕ) (h : History) → conv_of (deeds h) 0 fid ≡ Some number → asker (deeds h) call ≡ Some n → eqb n number ≡ false
    → option_map (λ q. q.conv) (find (λ q. eqb q.call call) (filter (has_seat (filter (stays fid) (speakers (deeds h)))) (questions (deeds h)))) ≡ Some n
ended_asker fid number call n h seat is apart =
    let done = deeds h in
    let f = found_by (λ q. q.conv) (find (λ q. eqb q.call call) (questions done)) n is in
    let seated = (found_passes (has_seat (speakers done)) (λ q. eqb q.call call) (questions done) f.which f.found (all_seated h)).0 in
    let on = others_stand fid number f.which.conv (speakers done) (speak_once h) seat (ap (λ n. eqb n number) f.gives ∙ apart) seated in
    ap (option_map (λ q. q.conv)) (found_stays (λ q. eqb q.call call) (has_seat (filter (stays fid) (speakers done))) (questions done) f.which f.found on) ∙ ap (λ n. Some n) f.gives

ends_so : (fid number : ℕ) (h : History) → IsCalm (deeds h) → eqb fid 0 ≡ false → conv_of (deeds h) 0 fid ≡ Some number → EndsSo fid number (deeds h) (OfFids 0 (Clunked fid) ∷ gone_by fid (deeds h))
ends_so fid number h c off seat =
    let done = deeds h in
    let gone = gone_by fid done in
    let a = gone_alike fid done (alike_itself done c.names) in
    let g = alike_calm done gone a c in
    record {
      still = ended_still fid gone off (still_of gone g);
      read = ended_read fid gone (speakers gone) g.alone g.read;
      opened = a.opened;
      others = λ other apart. ap (option_map (λ s. s.conv)) (found_kept (is_at other) (stays fid) (speakers gone) (λ s at. kept_seat fid other s apart at) ∙ ap (find (is_at other)) a.speaking);
      askers = λ call n is apart. ap (λ ss. option_map (λ q. q.conv) (find (λ q. eqb q.call call) (filter (has_seat (filter (stays fid) ss)) (questions gone)))) a.speaking
          ∙ (ap (λ qs. option_map (λ q. q.conv) (find (λ q. eqb q.call call) (filter (has_seat (filter (stays fid) (speakers done))) qs))) a.asked ∙ ended_asker fid number call n h seat is apart);
      told = given_up_bare fid (waits gone 0) (none_settled gone 0 g.settled);
    }

-- of a request that is granted
pub clunk_ends : (fid number : ℕ) (call : Call) (h : History) → call.conn ≡ 0 → IsCalm (deeds h) → eqb fid 0 ≡ false → conv_of (deeds h) 0 fid ≡ Some number → EndsSo fid number (deeds h) (after (deeds h) call (t.Clunk fid))
clunk_ends fid number call h on c off seat =
    subst (EndsSo fid number (deeds h)) (sym (clunk_is call fid (deeds h) on (quiet_deeds h c.names).asked)) (ends_so fid number h c off seat)
