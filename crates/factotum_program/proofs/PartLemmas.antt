-- A front of a text that was written, or is gathered.
use Rattle.std.proofs.Common.{◌≡◌, ℕ, List, [], ◌++◌, length-append, Option, sym, ap, subst, ◌∙◌, append_assoc, append-nil, arith}
use Rattle.wire_streams.specs.Streams.{Gains}
use Rattle.wire_streams.proofs.StreamLemmas.{Gains-nil, Gains-trans}
use Rattle.auth_program.specs.declared.status.Status.{Status}
use Rattle.auth_program.specs.declared.status.Status.TheVariants.{NoMemory}
use Rattle.factotum_program.specs.Commands.{GainsPart}
use Rattle.factotum_program.specs.Gathers.{Gathers, GathersPart}

-- ---- a text

-- nothing was told yet
pub gathers_none : (origin : Option (List ℕ)) → Gathers origin origin [] []
gathers_none origin = record { front = []; parts = append-nil []; written = Gains-nil origin }

-- what one step put out is gathered behind what was
pub gathers_more : (origin held : Option (List ℕ)) (old new text piece : List ℕ) → new ≡ old ++ piece → Gathers origin held old text → Gathers origin held new (text ++ piece)
gathers_more origin held old new text piece is g = record {
  front = g.front;
  parts = ap (λ (t : List ℕ). t ++ piece) g.parts ∙ append_assoc g.front old piece ∙ ap (λ (t : List ℕ). g.front ++ t) (sym is);
  written = g.written;
}

-- what was gathered was written
pub gathers_gone : (origin held later : Option (List ℕ)) (gathered text : List ℕ) → Gains held later gathered → Gathers origin held gathered text → Gathers origin later [] text
gathers_gone origin held later gathered text gone g = record {
  front = text;
  parts = sym (append-nil text);
  written = subst (Gains origin later) (sym g.parts) (Gains-trans origin held later g.front gathered g.written gone);
}

-- nothing is gathered
pub gathers_left : (origin held : Option (List ℕ)) (left text : List ℕ) → left ≡ [] → Gathers origin held [] text → Gathers origin held left text
gathers_left origin held left text none g = subst (λ (l : List ℕ). Gathers origin held l text) (sym none) g

-- where nothing is gathered all was written
pub all_written : (origin held : Option (List ℕ)) (text : List ℕ) → Gathers origin held [] text → Gains origin held text
all_written origin held text g = subst (Gains origin held) (sym (g.parts ∙ append-nil g.front)) g.written

-- ---- a part of a text

-- a part of a text is a part of a longer one
pub part_longer : (status : Status) (origin held : Option (List ℕ)) (gathered text longer more : List ℕ) → longer ≡ text ++ more → GathersPart status origin held gathered text → GathersPart status origin held gathered longer
part_longer status origin held gathered text longer more is p = record {
  told = p.told;
  rest = p.rest ++ more;
  parts = is ∙ ap (λ (t : List ℕ). t ++ more) p.parts ∙ append_assoc p.told p.rest more;
  gathers = p.gathers;
  missing = λ e. omega (arith, p.missing e, length-append p.rest more);
}

-- memory ran out where so much was told
pub part_memory : (origin held : Option (List ℕ)) (gathered text longer more : List ℕ) → longer ≡ text ++ more → Gathers origin held gathered text → GathersPart NoMemory origin held gathered longer
part_memory origin held gathered text longer more is g = record { told = text; rest = more; parts = is; gathers = g; missing = λ e. absurd (cc) }

-- memory ran out before anything more was told
pub part_none : (status : Status) (origin held : Option (List ℕ)) (gathered text longer more : List ℕ) → status ≡ NoMemory → longer ≡ text ++ more → Gathers origin held gathered text → GathersPart status origin held gathered longer
part_none status origin held gathered text longer more memory is g = subst (λ (s : Status). GathersPart s origin held gathered longer) (sym memory) (part_memory origin held gathered text longer more is g)

-- what was gathered was written in part
pub gathers_failed : (status : Status) (origin held later : Option (List ℕ)) (gathered text : List ℕ) → GainsPart status held later gathered → Gathers origin held gathered text → GathersPart status origin later [] text
gathers_failed status origin held later gathered text f g = record {
  told = g.front ++ f.front;
  rest = f.rest;
  parts = g.parts ∙ ap (λ (t : List ℕ). g.front ++ t) f.parts ∙ sym (append_assoc g.front f.front f.rest);
  gathers = record {
    front = g.front ++ f.front;
    parts = sym (append-nil (g.front ++ f.front));
    written = Gains-trans origin held later g.front f.front g.written f.written;
  };
  missing = f.missing;
}

-- nothing of the part is gathered
pub part_left : (status : Status) (origin held : Option (List ℕ)) (left text : List ℕ) → left ≡ [] → GathersPart status origin held [] text → GathersPart status origin held left text
part_left status origin held left text none p = subst (λ (l : List ℕ). GathersPart status origin held l text) (sym none) p

-- what was gathered of a part was written
pub part_gone : (status : Status) (origin held later : Option (List ℕ)) (gathered text : List ℕ) → Gains held later gathered → GathersPart status origin held gathered text → GathersPart status origin later [] text
part_gone status origin held later gathered text gone p = record {
  told = p.told;
  rest = p.rest;
  parts = p.parts;
  gathers = gathers_gone origin held later gathered p.told gone p.gathers;
  missing = p.missing;
}

-- what was gathered of a part was written in part
pub part_failed : (status other : Status) (origin held later : Option (List ℕ)) (gathered text : List ℕ) → GainsPart other held later gathered → GathersPart status origin held gathered text → GathersPart other origin later [] text
part_failed status other origin held later gathered text f p = part_longer other origin later [] p.told text p.rest p.parts (gathers_failed other origin held later gathered p.told f p.gathers)

-- where nothing is gathered the part was written
pub part_written : (status : Status) (origin held : Option (List ℕ)) (text : List ℕ) → GathersPart status origin held [] text → GainsPart status origin held text
part_written status origin held text p = record { front = p.told; rest = p.rest; parts = p.parts; written = all_written origin held p.told p.gathers; missing = p.missing }
