use Rattle.std.proofs.Common.{◌≡◌, None, ap, subst, ◌∙◌}
use Rattle.roles.specs.Answers.{IsTold}
use Rattle.roles.specs.Starts.{fault_of, fits_start}
use Rattle.conv_p9any.specs.Inner.{inner_template}
use Rattle.conv_p9any.proofs.StartLemmas.{inner_fits, inner_starts}
use Rattle.conv_p9any.proofs.conv.AnyConv.begin_inner.Goals as goal

pub start-requires : goal.start-requires
start-requires g c =
    let own = c.args.self.now.chooser.own in
    let made : c.in_ok-template.template ≡ inner_template c.protocol_name-protocol.result.now own.template c.dom_in.result.now = c.in_ok-template.ensures in
    record { few = ap fits_start made ∙ inner_fits c.protocol_name-protocol.result.now own.template c.dom_in.result.now own.starts own.fits }

pub want_of_memory-requires : goal.want_of_memory-requires
want_of_memory-requires g c =
    let own = c.args.self.now.chooser.own in
    let dom = c.dom_in.result.now in
    let made : c.in_ok-template.template ≡ inner_template g.M.Offered.protocol own.template dom =
    c.in_ok-template.ensures ∙ ap (λ name. inner_template name own.template dom) c.protocol_name-protocol.ensures in
    let none : fault_of g.M.Offered.protocol c.in_ok-template.template ≡ None = ap (fault_of g.M.Offered.protocol) made ∙ inner_starts g.M.Offered.protocol own.template dom own.starts in
    subst (λ told. IsTold c.in-Err.fault told) (g.met.M.Offered.starts c.in_ok-template.template none) c.in-Err.ensures.refused
