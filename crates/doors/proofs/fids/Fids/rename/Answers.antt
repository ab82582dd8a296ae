use Rattle.std.proofs.Common.{List, sym, ap, ◌∙◌}
use Rattle.std.specs.Prelude.{position}
use Rattle.doors.specs.declared.fid.Held.{Held}
use Rattle.doors.proofs.FidLemmas.{is_fid, renamed_at, renamed_none}
use Rattle.doors.proofs.fids.Fids.rename.Goals as goal

pub returns-in-Some : goal.returns-in-Some
returns-in-Some c =
    rw (← c.self.view_is)
    (renamed_at c.args.fid c.args.names c.set_names.new.held c.index_mut.result.now c.self.inside.held.items c.in-Some.at (ap (λ (h : Held). h.names) c.set_names.ensures) (ap (λ (h : Held). h.fid) c.set_names.ensures ∙ ap (λ (h : Held). h.fid) c.index_mut.ensures.value)
    (sym c.in-Some.is ∙ c.find_place.ensures ∙ ap (λ (all : List Held). position (is_fid c.args.fid) all) c.deref.ensures.value))

pub returns-in_default : goal.returns-in_default
returns-in_default c =
    rw (← c.self.view_is) (renamed_none c.args.fid c.args.names c.self.inside.held.items (sym c.in_default.is ∙ c.find_place.ensures ∙ ap (λ (all : List Held). position (is_fid c.args.fid) all) c.deref.ensures.value))
