-- A request that a network makes of a conversation does what is said of it, and leaves the others.
use Rattle.std.proofs.Common.{◌≡◌, ℕ, ◌<◌, arith, List, [], ◌∷◌, Bool, true, false, cond, Some, refl, sym, ap, subst, ◌∙◌, inl, inr}
use Rattle.std.specs.Prelude.{◌⊎◌}
use Rattle.nine.specs.declared.message.RMsg.{RMsg}
use Rattle.nine.specs.declared.message.RBody.{RBody}
use Rattle.nine.specs.declared.message.RBody.TheVariants as r
use Rattle.attr_tuples.proofs.EqualityLemmas.{eqb_swap}
use Rattle.talks.specs.Standings.{nothing_said}
use Rattle.agent_history.specs.Conversations.{asker, conv_of}
use Rattle.agent_history.specs.Histories.{History, deeds}
use Rattle.agent_laws.specs.Laws.{gives_content}
use Rattle.world_history.specs.Driving.{drive, is_refused, questions_to, reads, replies_to}
use Rattle.world_history.specs.Talking.{Asks, request_questions, request_text, requested, word_of}
use Rattle.world_promises.specs.Begun.{BegunWith}
use Rattle.world_promises.specs.Agents.{GiveNothing, IsCarried, IsUnread, RequestDoes, asked_as, begun_in, is_carried, is_read, is_turned_away, isnt_read, write_of}
use Rattle.driven_agents.specs.Idle.{AreOf, IsIdle, Runs, SameSeats}
use Rattle.driven_agents.proofs.AlikeLaws.{GivesNone}
use Rattle.driven_agents.proofs.RunLaws.{drive_runs}
use Rattle.driven_agents.proofs.WritesLaws.{WriteSo, write_is}
use Rattle.driven_agents.proofs.SeatLaws.{seat_small}
use Rattle.world_promises.specs.Requests.{IsWorded, Requested, RequestsDo, RequestsLeave}
use Rattle.world_promises.proofs.ReadCases.{read_case}
use Rattle.world_promises.proofs.ReadComes.{ReadSo, comes_so, driven_so, still_there}
use Rattle.world_promises.proofs.StoredLaws.{stored_so}

-- ---- a write that is refused

same_read : (body : RBody) → is_read body ≡ gives_content body
same_read (r.Read text) = refl
same_read body = refl

pub give_nothing : (ms : List RMsg) → GivesNone ms → GiveNothing ms
give_nothing [] none = tt
give_nothing (m ∷ ms) none = (same_read m.body ∙ none.0, give_nothing ms none.1)

-- ---- what a request comes to

-- the write is refused, or read
abbrev refused_in : ℕ → Asks → History → Bool
refused_in fid what h = is_refused (replies_to (write_of fid what) h)

abbrev behind : ℕ → Asks → History → History
behind fid what h = drive (write_of fid what) h

only_written : (fid : ℕ) (what : Asks) (h : History) → refused_in fid what h ≡ true → requested fid what h ≡ behind fid what h
only_written fid what h e = ap (λ b. cond b (behind fid what h) (drive (reads fid (word_of what)) (behind fid what h))) e

and_read : (fid : ℕ) (what : Asks) (h : History) → refused_in fid what h ≡ false → requested fid what h ≡ drive (reads fid (word_of what)) (behind fid what h)
and_read fid what h e = ap (λ b. cond b (behind fid what h) (drive (reads fid (word_of what)) (behind fid what h))) e

none_asked : (fid : ℕ) (what : Asks) (h : History) → refused_in fid what h ≡ true → request_questions fid what h ≡ []
none_asked fid what h e = ap (λ b. cond b [] (questions_to (reads fid (word_of what)) (behind fid what h))) e

all_asked : (fid : ℕ) (what : Asks) (h : History) → refused_in fid what h ≡ false → request_questions fid what h ≡ questions_to (reads fid (word_of what)) (behind fid what h)
all_asked fid what h e = ap (λ b. cond b [] (questions_to (reads fid (word_of what)) (behind fid what h))) e

turned_away : (number fid : ℕ) (what : Asks) (h : History) → refused_in fid what h ≡ true → WriteSo fid (request_text what) h → Requested number fid what h
turned_away number fid what h e w =
    let same = sym (only_written fid what h e) in
    record {
      does = is_turned_away e (give_nothing (replies_to (write_of fid what) h) w.replies);
      idle = subst IsIdle same w.idle;
      seats = subst (SameSeats h) same w.seats;
      keeps = λ call n there _. subst (λ now. asker (deeds now) call ≡ Some n) same (w.askers call ∙ there);
      raises = subst (λ qs. AreOf number qs (requested fid what h)) (sym (none_asked fid what h e)) tt;
    }

does_so : (number fid : ℕ) (what : Asks) (h : History) → refused_in fid what h ≡ false → IsUnread number fid what (behind fid what h) ⊎ IsCarried number fid what (behind fid what h) → RequestDoes number fid what h
does_so number fid what h e (inl unread) = isnt_read e unread
does_so number fid what h e (inr carried) = is_carried e carried

small_tag : (h : History) (number fid : ℕ) → IsIdle h → conv_of (deeds h) 0 fid ≡ Some number → fid < 65536
small_tag h number fid idle_ there = omega (arith, seat_small (deeds h) fid number idle_.calm there)

-- the read behind a write
read_behind : (number fid : ℕ) (what : Asks) (h : History) → IsIdle h → conv_of (deeds h) 0 fid ≡ Some number → refused_in fid what h ≡ false → Runs (drive (reads fid (word_of what)) (behind fid what h)) → ReadSo number fid what (behind fid what h)
read_behind number fid what h idle_ there e runs =
    let now = behind fid what h in
    let small = small_tag h number fid idle_ there in
    let runs_now = drive_runs (reads fid (word_of what)) now runs in
    let w = write_is fid (request_text what) h idle_ runs_now in
    let s = stored_so number fid what h small idle_ there runs_now e in
    let there_now = still_there fid number (deeds h) (deeds now) w.seats.speakers there in
    comes_so number fid what now (begun_in h number) nothing_said w.idle there_now runs s.stood s.rests
    (read_case number fid (word_of what) (asked_as what) (begun_in h number) nothing_said now small w.idle there_now s.stood s.rests (driven_so what))

read_on : (number fid : ℕ) (what : Asks) (h : History) → BegunWith IsWorded (begun_in h number) → IsIdle h → conv_of (deeds h) 0 fid ≡ Some number → refused_in fid what h ≡ false → Runs (drive (reads fid (word_of what)) (behind fid what h)) → Requested number fid what h
read_on number fid what h worded idle_ there e runs =
    let now = behind fid what h in
    let runs_now = drive_runs (reads fid (word_of what)) now runs in
    let w = write_is fid (request_text what) h idle_ runs_now in
    let s = stored_so number fid what h (small_tag h number fid idle_ there) idle_ there runs_now e in
    let so = read_behind number fid what h idle_ there e runs in
    let left = so.left in
    let same = sym (and_read fid what h e) in
    record {
      does = does_so number fid what h e (so.does (subst (BegunWith IsWorded) (sym (ap (λ x. x.begun) s.stood)) worded));
      idle = subst IsIdle same left.idle;
      seats = subst (SameSeats h) same (record { speakers = left.seats.speakers ∙ w.seats.speakers; opened = left.seats.opened ∙ w.seats.opened });
      keeps = λ call n was ok. subst (λ x. asker (deeds x) call ≡ Some n) same (left.keeps call n (w.askers call ∙ was) ok);
      raises = subst (λ qs. AreOf number qs (requested fid what h)) (sym (all_asked fid what h e)) (subst (AreOf number (questions_to (reads fid (word_of what)) now)) same left.raises);
    }

by_write : (number fid : ℕ) (what : Asks) (h : History) → BegunWith IsWorded (begun_in h number) → IsIdle h → conv_of (deeds h) 0 fid ≡ Some number → Runs (requested fid what h) → (b : Bool) → refused_in fid what h ≡ b → Requested number fid what h
by_write number fid what h worded idle_ there runs true e = turned_away number fid what h e (write_is fid (request_text what) h idle_ (subst Runs (only_written fid what h e) runs))
by_write number fid what h worded idle_ there runs false e = read_on number fid what h worded idle_ there e (subst Runs (and_read fid what h e) runs)

pub requests_do : RequestsDo
requests_do number fid what h worded idle_ there runs = by_write number fid what h worded idle_ there runs (refused_in fid what h) refl

pub requests_leave : RequestsLeave
requests_leave other number fid conv what h idle_ there off runs e =
    (read_behind number fid what h idle_ there e (subst Runs (and_read fid what h e) runs)).left.others other (eqb_swap number other ∙ off)
