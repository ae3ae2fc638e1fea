use Rattle.std.proofs.Common.{codes, decimal, rules}
use Rattle.std.proofs.lemmas.Grind.{put_four}
use Rattle.tmem_answers.proofs.Texts.{counts_text}
use Rattle.tmem_answers.proofs.line.write_stats.Goals as goal

pub returns : goal.returns
returns g c = λ plain ok.
    let s = c.args.stats.now in
    let one = c.write.ensures.writes plain (search rules) in
    let two = c.write-2.ensures.writes one.plain (search rules) in
    let three = c.write-3.ensures.writes two.plain (search rules) in
    let four = c.write-4.ensures.writes three.plain ok in
    put_four _ _ _ _ _ _ _ _ _ _ _ one two three four
    (counts_text (codes "\"stats\":{\"committed\":") (decimal s.committed) (codes ",\"refused\":") (decimal s.refused)
    (codes ",\"conflicts\":") (decimal s.conflicts) (codes ",\"flushes\":") (decimal s.flushes)
    (codes ",\"checkpoints\":") (decimal s.checkpoints) (codes ",\"waiting\":") (decimal s.waiting)
    (codes ",\"kept\":") (decimal s.kept) (codes ",\"free_slots\":") (decimal s.free_slots) (codes "}"))
