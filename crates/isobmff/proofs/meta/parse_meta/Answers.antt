-- What the children left is what the definition goes on from (`meta_children`).
use mathlib.Core.Path.{◌∙◌}
use Rattle.std.proofs.Common.{rules}
use Rattle.isobmff.specs.Children.{meta_children}
use Rattle.isobmff.proofs.meta.parse_meta.Goals as goal

pub returns-in_err-children-in-0 : goal.returns-in_err-children-in-0
returns-in_err-children-in-0 c =
    let v = rw c.in_ok-fullbox_header.was at c.fullbox_header.ensures in
    let o = rw c.in_err-children-in-0.was at (meta_children _ v c.in-0.is c.children.ensures) in
    search rules

pub returns-in_ok-children-in-0 : goal.returns-in_ok-children-in-0
returns-in_ok-children-in-0 c =
    let v = rw c.in_ok-fullbox_header.was at c.fullbox_header.ensures in
    c.after.ensures ∙ rw c.in_ok-children-in-0.was at (meta_children _ v c.in-0.is c.children.ensures)
