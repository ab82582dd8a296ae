-- What events leave of a conversation is what turns leave, since the takes that follow an event change none.
use Rattle.std.proofs.Common.{◌≡◌, ℕ, List, ◌∷◌, Bool, true, false, cond, Option, Some, None, refl, sym, ap, subst, ◌∙◌}
use Rattle.std.specs.Str.{bytes_eq}
use Rattle.agent_history.specs.declared.event.Event.{Event}
use Rattle.agent_history.specs.Conversations.{opened_talks}
use Rattle.world_history.specs.Acts.{Act, Opened, agent_of}
use Rattle.world_history.specs.Worlds.{fid_for, history}
use Rattle.agent_history.specs.declared.event.Event.TheVariants.{NoAnswer}
use Rattle.agent_history.specs.declared.event.Event.TheVariants as events
use Rattle.agent_history.specs.Histories.{History, deeds}
use Rattle.world_history.specs.Driving.{clunks, drive, is_refused, reads, replies_to, writes}
use Rattle.world_history.specs.Talking.{Asks, request_text, word_of}
use Rattle.world_history.specs.Turns.{Turn, after, asks, closes, hears, lets_open, misses, tells}
use Rattle.driven_agents.specs.Quiet.{NamesNoLines}
use Rattle.driven_agents.proofs.StillLaws.{openings_change_none}
use Rattle.driven_agents.proofs.TakeLaws.{takes_change_none}
use Rattle.driven_agents.proofs.WriteLaws.{closings_change_none, writes_start_none}
use Rattle.world_promises.specs.Agents.{EventsLeave, Leaves, NextIsNew, Stays, begun_in, write_of}
use Rattle.world_promises.specs.Settings.{Place, next_place, place_of}

pub behind_takes : (event : Event) (h : History) (number : ℕ) → begun_in (drive event h) number ≡ begun_in (event ∷ h) number
behind_takes event h number = ap (λ s. s.begun) (takes_change_none event h number)

pub stays_so : (event : Event) (h : History) (number : ℕ) → Stays number event h → begun_in (drive event h) number ≡ begun_in h number
stays_so event h number stays = behind_takes event h number ∙ stays

-- a write, where no fid ever came to name a file of lines, and a closing there
pub write_stays : (number fid : ℕ) (bytes : List ℕ) (h : History) → NamesNoLines (deeds h) → begun_in (drive (writes fid bytes) h) number ≡ begun_in h number
write_stays number fid bytes h quiet = stays_so (writes fid bytes) h number (writes_start_none fid bytes h number quiet)

pub close_stays : (number fid : ℕ) (h : History) → NamesNoLines (deeds h) → begun_in (drive (clunks fid) h) number ≡ begun_in h number
close_stays number fid h quiet = stays_so (clunks fid) h number (ap (λ s. s.begun) (closings_change_none fid h number quiet))

by_write : (refused : Bool) (number : ℕ) (written read h : History) → begun_in written number ≡ begun_in h number → (refused ≡ false → begun_in read number ≡ begun_in written number) → begun_in (cond refused written read) number ≡ begun_in h number
by_write true number written read h same more = same
by_write false number written read h same more = more refl ∙ same

request_leaves : (number fid : ℕ) (what : Asks) (h : History) → NamesNoLines (deeds h) → (is_refused (replies_to (write_of fid what) h) ≡ false → Stays number (reads fid (word_of what)) (drive (write_of fid what) h)) → begun_in (cond (is_refused (replies_to (write_of fid what) h)) (drive (write_of fid what) h) (drive (reads fid (word_of what)) (drive (write_of fid what) h))) number ≡ begun_in h number
request_leaves number fid what h quiet leave =
    let written = drive (write_of fid what) h in
    let asked = reads fid (word_of what) in
    by_write (is_refused (replies_to (write_of fid what) h)) number written (drive asked written) h (write_stays number fid (request_text what) h quiet) (λ granted. stays_so asked written number (leave granted))

pub opening_leaves : (number fid : ℕ) (h : History) → Leaves number (lets_open fid) h
unfolding after
opening_leaves number fid h = ap (λ s. s.begun) (openings_change_none fid h number)

pub events_leave : (number : ℕ) (turn : Turn) (h : History) → NamesNoLines (deeds h) → EventsLeave number turn h → Leaves number turn h
unfolding after
events_leave number (tells node line) h quiet leave = write_stays number 1 line h quiet
events_leave number (lets_open fid) h quiet leave = opening_leaves number fid h
events_leave number (asks conv fid what) h quiet leave = request_leaves number fid what h quiet leave
events_leave number (hears conv fid call bytes) h quiet leave = stays_so (events.Answer call bytes) h number leave
events_leave number (misses conv fid call) h quiet leave = stays_so (NoAnswer call) h number leave
events_leave number (closes conv fid) h quiet leave = close_stays number fid h quiet

-- ---- a conversation that is opened

place_next : (b : Bool) (o : Option Place) (next place : Place) → o ≡ None → cond b (Some next) o ≡ Some place → next ≡ place
place_next true o next place none is = cc is
place_next false o next place none is = absurd (cc (sym none ∙ is))

opened_by : (b : Bool) (number fid : ℕ) (h : History) → begun_in h number ≡ None → begun_in (cond b (after (lets_open fid) h) h) number ≡ None
opened_by true number fid h new = opening_leaves number fid h ∙ new
opened_by false number fid h new = new

-- it has met nothing yet
pub opened_new : (before : List Act) (act : Act) → NextIsNew before → (name : List ℕ) (place : Place) → place_of before name ≡ None → place_of (act ∷ before) name ≡ Some place → begun_in (history (act ∷ before) place.agent) place.number ≡ None
opened_new before (Opened node conv) new name place none is =
    let agent = agent_of before node in
    let h = history before agent in
    subst (λ p. begun_in (history (Opened node conv ∷ before) p.agent) p.number ≡ None) (place_next (bytes_eq conv name) (place_of before name) (next_place before node) place none is)
    (opened_by (bytes_eq agent agent) (opened_talks (deeds h)) (fid_for before node) h (new agent))
opened_new before act new name place none is = absurd (cc (sym none ∙ is))
