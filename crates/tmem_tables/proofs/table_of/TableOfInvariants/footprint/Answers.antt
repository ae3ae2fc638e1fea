use Rattle.std.proofs.Common.{Some, sym, ap, ◌∙◌}
use Rattle.tmem_tables.proofs.Shown.{within_vec, shown_there}
use Rattle.tmem_tables.proofs.table_of.TableOfInvariants.footprint.Goals as goal

pub index-requires : goal.index-requires
index-requires g c = within_vec c.args.self.now.entries g.E.TableEntry.name c.args.index c.requires

pub returns : goal.returns
returns g c = shown_there c.args.self.now.entries.items g.E.TableEntry.name g.E.TableEntry.footprint c.args.index c.index.result.now c.requires c.index.ensures ∙ ap Some (sym c.footprint.ensures)
