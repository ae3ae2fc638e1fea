use Rattle.tmem_run.proofs.Laws.{ok_both}
use Rattle.tmem.proofs.serve.serve_text.Goals as goal

pub returns : goal.returns
returns g c =
    let shape = c.in_ok-shape.shape in
    ok_both c.serve_on.result c.serve_on.ensures.served c.serve_on.ensures.whole (λ served whole. record { shape = shape; is = c.in_ok-shape.ensures.ok; found = c.in_ok-disk.disk; opened = c.in_ok-disk.ensures.opened; served = served; whole = whole })
