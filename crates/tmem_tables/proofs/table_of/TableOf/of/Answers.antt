use Rattle.tmem_tables.proofs.Judged.{few_entries, distinct_names, all_below, bad_footprint}
use Rattle.tmem_tables.proofs.table_of.TableOf.of.Goals as goal

pub indexed-requires-clause-few : goal.indexed-requires-clause-few
indexed-requires-clause-few g c = few_entries g.E.TableEntry.name g.E.TableEntry.footprint c.args.vars c.deref.result.now c.args.entries.items c.deref.ensures.value c.in-None.ensures

pub indexed-requires-clause-distinct : goal.indexed-requires-clause-distinct
indexed-requires-clause-distinct g c = distinct_names g.E.TableEntry.name g.E.TableEntry.footprint c.args.vars c.deref.result.now c.args.entries.items c.deref.ensures.value c.in-None.ensures

pub indexed-requires-clause-within : goal.indexed-requires-clause-within
indexed-requires-clause-within g c = all_below g.E.TableEntry.name g.E.TableEntry.footprint c.args.vars c.deref.result.now c.args.entries.items c.deref.ensures.value c.in-None.ensures

pub returns-in-Some-clause-bad_footprint : goal.returns-in-Some-clause-bad_footprint
returns-in-Some-clause-bad_footprint g c = bad_footprint g.E.TableEntry.name g.E.TableEntry.footprint c.args.vars c.deref.result.now c.args.entries.items c.deref.ensures.value c.in-Some.fault c.in-Some.ensures
