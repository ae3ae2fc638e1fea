use Rattle.std.proofs.Common.{refl, inl, inr}
use Rattle.clap.proofs.OnLiterals.{clap_on_literals}
use Rattle.tmem_args.proofs.Asking.{names_only_run, refused}
use Rattle.tmem_args.proofs.args.reads_plainly.Goals as goal

pub returns : goal.returns
unfolding clap_on_literals
returns c = λ name. record {
  input = record { asks = (refl, names_only_run _ refl); path = refl; store = refl };
  file = record { asks = (refl, names_only_run _ refl); path = refl; store = refl };
  input_on_store = record { asks = (refl, names_only_run _ refl); path = refl; store = refl };
  file_on_store = record { asks = (refl, names_only_run _ refl); path = refl; store = refl };
  store_first = record { asks = (refl, names_only_run _ refl); path = refl; store = refl };
  help = inl tt;
  version = inl tt;
  none = refused _ _ refl (λ e. e);
  unknown = (λ e. cc, λ is. elim is [ inl e ↦ e | inr rest ↦ elim rest [ inl e ↦ e | inr e ↦ e ] ]);
  no_path = refused _ _ refl (λ e. e);
  two_stores = refused _ _ refl (λ e. e);
  count = record { asks = (refl, refl); many = refl; often = refl; store = refl };
  count_most = record { asks = (refl, refl); many = refl; often = refl; store = refl };
  count_on_store = record { asks = (refl, refl); many = refl; often = refl; store = refl };
  no_worker = refused _ _ refl (λ e. e);
  many_workers = refused _ _ refl (λ e. e);
  no_turn = refused _ _ refl (λ e. e);
  many_turns = refused _ _ refl (λ e. e);
  no_number = refused _ _ refl (λ e. e);
  one_number = refused _ _ refl (λ e. e);
  bench = record { asks = (refl, refl); store = refl; time = refl; line = refl };
  bench_on_store = record { asks = (refl, refl); store = refl; time = refl; line = refl };
  bench_one_job = record { asks = (refl, refl); store = refl; time = refl; line = refl };
  bench_too_short = refused _ _ refl (λ e. e);
  bench_no_job = refused _ _ refl (λ e. e);
  bench_by_number = refused _ _ refl (λ e. e);
  show = record { asks = (refl, refl); path = refl; as_json = refl; with_hex = refl };
  show_as_json = record { asks = (refl, refl); path = refl; as_json = refl; with_hex = refl };
  show_with_hex = record { asks = (refl, refl); path = refl; as_json = refl; with_hex = refl };
  show_all = record { asks = (refl, refl); path = refl; as_json = refl; with_hex = refl };
  show_nothing = refused _ _ refl (λ e. e);
  show_two = refused _ _ refl (λ e. e);
  init = record { asks = (refl, refl); path = refl; from = refl; flag = refl };
  init_in_place = record { asks = (refl, refl); path = refl; from = refl; flag = refl };
  init_no_file = refused _ _ refl (λ e. e);
  serve = record { asks = (refl, refl); path = refl; with_shape = refl };
  serve_with_shape = record { asks = (refl, refl); path = refl; with_shape = refl };
  serve_nothing = refused _ _ refl (λ e. e);
  check = record { asks = (refl, refl); path = refl; explains = refl };
  check_nothing = refused _ _ refl (λ e. e);
  check_explained = record { asks = (refl, refl); path = refl; explains = refl };
  check_two = refused _ _ refl (λ e. e);
  explained = record {
    given = refl;
    before_a_script = refl;
    plays = record { asks = (refl, names_only_run _ refl); path = refl; store = refl };
    left_out = inr refl;
    help = inl refl;
    alone = refused _ _ refl (λ e. e);
    twice = refused _ _ refl (λ e. e);
  };
}
