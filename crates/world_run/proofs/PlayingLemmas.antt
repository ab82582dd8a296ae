-- One line after the other, in a run.
use Rattle.std.proofs.Common.{◌≡◌, ℕ, ◌<◌, ◌≤◌, ◌^◌, List, [], ◌∷◌, ◌++◌, length, codes, Option, Some, None, Err, refl, sym, ap, subst, ◌∙◌, append_assoc, append-nil, length-append, arith}
use Rattle.wire_streams.specs.Streams.{Gains}
use Rattle.wire_streams.proofs.StreamLemmas.{Gains-trans}
use Rattle.std.proofs.lemmas.Grind.{flat_map-append}
use Rattle.wire_histories.specs.Lines.{step_line}
use Rattle.world_history.proofs.RecordLemmas.{by_cut}
use Rattle.wire_histories.specs.declared.step.Step.{Step}
use Rattle.world_scripts.specs.Lines.{IsWritten, ScriptLine}
use Rattle.world_scripts.specs.Lines as l
use Rattle.world_scripts.specs.Reading.{line_of}
use Rattle.world_scripts.specs.Scripts.{Numbered, script_lines}
use Rattle.hex.specs.Hex.{encode_lower}
use Rattle.auth_program.specs.declared.cause.ScriptCause.{ScriptCause}
use Rattle.world_history.specs.Acts.{Act}
use Rattle.world_history.specs.Scripts.{Played, judged, play, plays}
use Rattle.world_history.specs.Worlds.{messages, steps, steps_by}
use Rattle.world_run.proofs.PlayLemmas.{is_behind, plays_no_more, plays_on}
use Rattle.world_history.specs.Writing.{StopsBy, WritesBy, lines_of}
use Rattle.world_history.specs.declared.record.Cut.{Cut}
use Rattle.world_history.specs.declared.record.Cut.TheVariants as cut
use Rattle.world_run.specs.declared.run.Run.{Run}
use Rattle.world_run.specs.Runs.{RunsAll, RunsFrom, RunsPart, RunsSo}
use Rattle.world_run.specs.declared.play.WorldEnd.{WorldEnd}
use Rattle.world_run.specs.declared.play.WorldEnd.TheVariants as ends
use Rattle.world_run.specs.Playing.{Goes}
use Rattle.world_run.specs.Standing.{IsDone, IsShort, Stands}

-- ---- texts

-- what stands behind other bytes is no longer than all
behind_short : (front rest : List ℕ) → length rest ≤ length (front ++ rest)
behind_short front rest = omega (arith, length-append front rest)

short_behind : (front rest : List ℕ) (n : ℕ) → length (front ++ rest) < n → length rest < n
short_behind front rest n short = omega (arith, behind_short front rest, short)

pub short_parts : (text : List ℕ) (line : ScriptLine) → IsWritten text line → length text < 2 ^ 30 → IsShort line
short_parts text (l.Ctl node line) w short =
    let all : length (codes "ctl" ++ l.word (node ++ l.word line)) < 2 ^ 30 = subst (λ (t : List ℕ). length t < 2 ^ 30) w.same short in
    short_behind (32 ∷ []) line (2 ^ 30) (short_behind node (l.word line) (2 ^ 30) (short_behind (codes "ctl" ++ 32 ∷ []) (node ++ l.word line) (2 ^ 30) all))
short_parts text (l.Start conv word tuple) w short =
    let all : length (codes "start" ++ l.word (conv ++ l.word (encode_lower word ++ l.word tuple))) < 2 ^ 30 = subst (λ (t : List ℕ). length t < 2 ^ 30) w.same short in
    short_behind (32 ∷ []) tuple (2 ^ 30) (short_behind (encode_lower word) (l.word tuple) (2 ^ 30) (short_behind (32 ∷ []) (encode_lower word ++ l.word tuple) (2 ^ 30) (short_behind conv (l.word (encode_lower word ++ l.word tuple)) (2 ^ 30) (short_behind (codes "start" ++ 32 ∷ []) (conv ++ l.word (encode_lower word ++ l.word tuple)) (2 ^ 30) all))))
short_parts text (l.Dom dom) w short = tt
short_parts text (l.AsKey tuple) w short = tt
short_parts text (l.AsSpeak tuple) w short = tt
short_parts text l.Reload w short = tt
short_parts text (l.Node node) w short = tt
short_parts text (l.Restart node) w short = tt
short_parts text (l.Open node conv) w short = tt
short_parts text (l.Read conv) w short = tt
short_parts text (l.Write conv pieces) w short = tt
short_parts text (l.Answer conv pieces) w short = tt
short_parts text (l.NoAnswer conv) w short = tt
short_parts text (l.AsGive session pieces first second third) w short = tt
short_parts text (l.Close conv) w short = tt

-- ---- what is recorded

-- the same run, with other steps recorded
abbrev pub with_recorded : Run → List Step → Run
with_recorded r recorded = record {
  alloc = r.alloc;
  nodes = r.nodes;
  talks = r.talks;
  clients = r.clients;
  tables = r.tables;
  recorded = recorded;
  made = r.made;
  keys = r.keys;
  speaks = r.speaks;
  asked = r.asked;
  used = r.used;
}

-- a line was carried out, and all of its steps were recorded
pub goes_on : (line : Numbered) (left : List Numbered) (acts : List Act) (old run : Run) (made recorded : List Step) (before now : Option (List ℕ))
    → Stands (line ∷ left) acts old → IsDone left acts (line_of line.text) made run → recorded ≡ run.recorded ++ made → Gains before now (lines_of made)
    → Goes line left acts (with_recorded run recorded) old.recorded before now
goes_on line left acts old run made recorded before now h d is written = record {
  act = d.act;
  fits = d.fits;
  stands = record {
    nodes = d.stands.nodes;
    talks = d.stands.talks;
    clients = d.stands.clients;
    tables = d.stands.tables;
    recorded = is ∙ (ap (λ (r : List Step). r ++ made) d.stands.recorded ∙ ap (λ (m : List Step). steps acts ++ m) d.made);
    made = d.stands.made;
    keys = d.stands.keys;
    speaks = d.stands.speaks;
    asked = d.stands.asked;
    used = d.stands.used;
  };
  more = made;
  recorded = is ∙ ap (λ (r : List Step). r ++ made) (d.stands.recorded ∙ sym h.recorded);
  written = written;
}

-- ---- ends

pub gains_nothing : (o : Option (List ℕ)) → Gains o o []
gains_nothing None = tt
gains_nothing (Some text) = sym (append-nil text)

-- nothing more was recorded, and the line was refused
pub ends_bad : (line : Numbered) (left : List Numbered) (acts : List Act) (cause : ScriptCause) (old run : Run) (now : Option (List ℕ))
    → Stands (line ∷ left) acts old → judged acts (line_of line.text) ≡ Err cause → run.recorded ≡ old.recorded
    → ((plays acts (line ∷ left)).refused ≡ Some (line.number, cause)) × RunsAll (plays acts (line ∷ left)) old.recorded run.recorded now now
ends_bad line left acts cause old run now h bad same =
    let p = plays_no_more line left acts cause bad in (
      ap (λ (q : Played). q.refused) p,
      record {
        more = [];
        recorded = same ∙ sym (append-nil old.recorded);
        all = same ∙ (h.recorded ∙ sym (ap (λ (q : Played). steps q.acts) p));
        written = gains_nothing now;
      },
    )

-- nothing more was recorded
pub ends_part : (lines : List Numbered) (acts : List Act) (old run : Run) (now : Option (List ℕ)) → old.recorded ≡ steps acts → run.recorded ≡ old.recorded → RunsPart cut.NoMemory (plays acts lines) old.recorded run.recorded now now
ends_part lines acts old run now recorded same =
    let b = is_behind lines acts in
    record {
      more = [];
      recorded = same ∙ sym (append-nil old.recorded);
      rest = b.rest;
      first = ap (λ (r : List Step). r ++ b.rest) (same ∙ recorded) ∙ b.front;
      written = gains_nothing now;
    }

-- ---- recording is cut off

-- what a line that is done comes to behind acts
record DoneBehind (acts : List Act) (made : List Step) (p : Played) : Type 0 where
  pub rest : List Step
  pub all : steps acts ++ (made ++ rest) ≡ steps p.acts

done_behind : (line : Numbered) (left : List Numbered) (acts : List Act) (made : List Step) (run : Run) → IsDone left acts (line_of line.text) made run → DoneBehind acts made (plays acts (line ∷ left))
done_behind line left acts made run d =
    let b = is_behind left (d.act ∷ acts) in
    record {
      rest = b.rest;
      all = ap (λ (m : List Step). steps acts ++ (m ++ b.rest)) d.made
          ∙ (sym (append_assoc (steps acts) (steps_by (length (messages acts)) acts d.act) b.rest)
          ∙ (b.front ∙ sym (ap (λ (q : Played). steps q.acts) (plays_on line left acts d.act d.fits))));
    }

pub ends_cut : (line : Numbered) (left : List Numbered) (acts : List Act) (c : Cut) (old run : Run) (made recorded : List Step) (before now : Option (List ℕ))
    → Stands (line ∷ left) acts old → IsDone left acts (line_of line.text) made run → StopsBy c made run.recorded recorded before now
    → RunsPart c (plays acts (line ∷ left)) old.recorded recorded before now
ends_cut line left acts c old run made recorded before now h d stops =
    let b = done_behind line left acts made run d in
    record {
      more = stops.front;
      recorded = stops.kept ∙ ap (λ (r : List Step). r ++ stops.front) (d.stands.recorded ∙ sym h.recorded);
      rest = stops.rest ++ b.rest;
      first = ap (λ (r : List Step). r ++ (stops.rest ++ b.rest)) (stops.kept ∙ ap (λ (r : List Step). r ++ stops.front) d.stands.recorded)
          ∙ (append_assoc (steps acts) stops.front (stops.rest ++ b.rest)
          ∙ (ap (λ (m : List Step). steps acts ++ m) (sym (append_assoc stops.front stops.rest b.rest))
          ∙ (ap (λ (m : List Step). steps acts ++ (m ++ b.rest)) (sym stops.parts) ∙ b.all)));
      written = stops.written;
    }

-- ---- all lines

-- the lines that are left behind some come to what all do, and what was recorded and written so far is a front of that
pub record Going (all left : List Numbered) (first : List Act) (old now_run : Run) (before now : Option (List ℕ)) : Type 0 where
  pub acts : List Act
  pub stands : Stands left acts now_run
  pub same : plays first all ≡ plays acts left
  pub more : List Step
  pub recorded : now_run.recorded ≡ old.recorded ++ more
  pub written : Gains before now (lines_of more)

pub going_first : (all : List Numbered) (first : List Act) (old : Run) (now : Option (List ℕ)) → Stands all first old → Going all all first old old now now
going_first all first old now h = record { acts = first; stands = h; same = refl; more = []; recorded = sym (append-nil old.recorded); written = gains_nothing now }

lines_both : (first second : List Step) → lines_of (first ++ second) ≡ lines_of first ++ lines_of second
lines_both first second = flat_map-append step_line first second

-- one line more
pub going_on : (all : List Numbered) (line : Numbered) (left : List Numbered) (first : List Act) (old run new : Run) (before between now : Option (List ℕ))
    → Going all (line ∷ left) first old run before between
    → ((acts : List Act) → Stands (line ∷ left) acts run → Goes line left acts new run.recorded between now)
    → Going all left first old new before now
going_on all line left first old run new before between now k goes =
    let g = goes k.acts k.stands in
    record {
      acts = g.act ∷ k.acts;
      stands = g.stands;
      same = k.same ∙ plays_on line left k.acts g.act g.fits;
      more = k.more ++ g.more;
      recorded = g.recorded ∙ (ap (λ (r : List Step). r ++ g.more) k.recorded ∙ append_assoc old.recorded k.more g.more);
      written = subst (λ (t : List ℕ). Gains before now t) (sym (lines_both k.more g.more)) (Gains-trans before between now (lines_of k.more) (lines_of g.more) k.written g.written);
    }

-- the last
pub going_done : (all : List Numbered) (first : List Act) (old run : Run) (before now : Option (List ℕ)) → Going all [] first old run before now
    → ((plays first all).refused ≡ None) × RunsAll (plays first all) old.recorded run.recorded before now
going_done all first old run before now k = (
  ap (λ (q : Played). q.refused) k.same,
  record {
    more = k.more;
    recorded = k.recorded;
    all = k.stands.recorded ∙ sym (ap (λ (q : Played). steps q.acts) k.same);
    written = k.written;
  },
)

-- one that ends the run
all_behind : (p q : Played) (old mid new : List Step) (more : List Step) (before between now : Option (List ℕ)) → p ≡ q → mid ≡ old ++ more → Gains before between (lines_of more) → RunsAll q mid new between now → RunsAll p old new before now
all_behind p q old mid new more before between now same is written r = record {
  more = more ++ r.more;
  recorded = r.recorded ∙ (ap (λ (m : List Step). m ++ r.more) is ∙ append_assoc old more r.more);
  all = r.all ∙ sym (ap (λ (x : Played). steps x.acts) same);
  written = subst (λ (t : List ℕ). Gains before now t) (sym (lines_both more r.more)) (Gains-trans before between now (lines_of more) (lines_of r.more) written r.written);
}

part_behind : (c : Cut) (p q : Played) (old mid new : List Step) (more : List Step) (before between now : Option (List ℕ)) → p ≡ q → mid ≡ old ++ more → Gains before between (lines_of more) → RunsPart c q mid new between now → RunsPart c p old new before now
part_behind c p q old mid new more before between now same is written r = record {
  more = more ++ r.more;
  recorded = r.recorded ∙ (ap (λ (m : List Step). m ++ r.more) is ∙ append_assoc old more r.more);
  rest = r.rest;
  first = r.first ∙ sym (ap (λ (x : Played). steps x.acts) same);
  written = subst (λ (t : List ℕ). WritesBy c before now t) (sym (lines_both more r.more)) (by_cut c before between now (lines_of more) (lines_of r.more) written r.written);
}

end_behind : (end : WorldEnd) (p q : Played) (old mid new : List Step) (more : List Step) (before between now : Option (List ℕ)) → p ≡ q → mid ≡ old ++ more → Gains before between (lines_of more) → RunsFrom end q mid new between now → RunsFrom end p old new before now
end_behind ends.Done p q old mid new more before between now same is written r = (ap (λ (x : Played). x.refused) same ∙ r.0, all_behind p q old mid new more before between now same is written r.1)
end_behind (ends.Bad line cause) p q old mid new more before between now same is written r = (ap (λ (x : Played). x.refused) same ∙ r.0, all_behind p q old mid new more before between now same is written r.1)
end_behind ends.WriteFault p q old mid new more before between now same is written r = part_behind cut.WriteFault p q old mid new more before between now same is written r
end_behind ends.NoMemory p q old mid new more before between now same is written r = part_behind cut.NoMemory p q old mid new more before between now same is written r

pub going_ends : (all : List Numbered) (line : Numbered) (left : List Numbered) (first : List Act) (end : WorldEnd) (old run new : Run) (before between now : Option (List ℕ))
    → Going all (line ∷ left) first old run before between
    → ((acts : List Act) → Stands (line ∷ left) acts run → RunsFrom end (plays acts (line ∷ left)) run.recorded new.recorded between now)
    → RunsFrom end (plays first all) old.recorded new.recorded before now
going_ends all line left first end old run new before between now k ends_so =
    end_behind end (plays first all) (plays k.acts (line ∷ left)) old.recorded run.recorded new.recorded k.more before between now k.same k.recorded k.written (ends_so k.acts k.stands)

-- ---- a script

-- nothing was recorded
pub ran_not : (script : List ℕ) (recorded : List Step) (now : Option (List ℕ)) → recorded ≡ [] → RunsPart cut.NoMemory (play script) [] recorded now now
ran_not script recorded now none = record {
  more = [];
  recorded = none;
  rest = steps (play script).acts;
  first = ap (λ (r : List Step). r ++ steps (play script).acts) none;
  written = gains_nothing now;
}

pub ran_all : (script : List ℕ) (lines : List Numbered) (end : WorldEnd) (old new recorded : List Step) (before now : Option (List ℕ)) → lines ≡ script_lines script → old ≡ [] → recorded ≡ new
    → RunsFrom end (plays [] lines) old new before now → RunsSo end script recorded before now
unfolding play
ran_all script lines end old new recorded before now same none is r =
    subst (λ (q : List Step). RunsFrom end (plays [] (script_lines script)) [] q before now) (sym is)
    (subst (λ (q : List Step). RunsFrom end (plays [] (script_lines script)) q new before now) none
    (subst (λ (ls : List Numbered). RunsFrom end (plays [] ls) old new before now) same r))
