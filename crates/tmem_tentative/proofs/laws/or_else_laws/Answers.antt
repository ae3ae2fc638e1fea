use Rattle.std.proofs.Common.{refl}
use Rattle.tmem_tree.specs.Run.{run}
use Rattle.tmem_tree.specs.Visited.{asks}
use Rattle.tmem_tentative.proofs.OrElseLaws.{or_else-assoc, or_else-retried, else_ask-assoc, else_ask-nil, alike_answers}
use Rattle.tmem_tentative.proofs.laws.or_else_laws.Goals as goal

pub returns : goal.returns
returns c = record {
  associates = λ steps tests a b d p q r s. record {
    runs = λ view. or_else-assoc (run steps tests a view) (run steps tests b view) (run steps tests d view);
    asks_alike = λ view. else_ask-assoc (run steps tests a view) (run steps tests b view) (asks steps tests a view) (asks steps tests b view) (asks steps tests d view);
  };
  unit = λ steps tests a p q. (
    record { runs = λ view. refl; asks_alike = λ view. refl },
    record { runs = λ view. or_else-retried (run steps tests a view); asks_alike = λ view. else_ask-nil (run steps tests a view) (asks steps tests a view) },
  );
  answers = alike_answers;
}
